-- Pairs among points on a cycle, whether they nest, and how many orbits the step to the point after the mate has.
use Rattle.std.specs.Prelude.{◌≡◌, ℕ, zero, suc, ◌+◌, ◌%◌, min, ◌<◌, Bool, false, cond, ◌||◌, nat_eq, nat_lt}
use Rattle.orbits.specs.Walks as walks

-- `mate` exchanges points of 0 .. n - 1. A point that it leaves where it is belongs to no pair.
pub record IsPairing (n : ℕ) (mate : ℕ → ℕ) : Type 0 where
  pub in_range : (i : ℕ) → i < n → mate i < n
  pub back : (i : ℕ) → i < n → mate (mate i) ≡ i

-- how many of the points 0 .. k - 1 come before their mate
abbrev pub pairs : (ℕ → ℕ) → ℕ → ℕ
pairs mate zero = 0
pairs mate (suc k) = cond (nat_lt k (mate k)) (suc (pairs mate k)) (pairs mate k)

-- no two pairs interleave
abbrev pub Nests : ℕ → (ℕ → ℕ) → Type 0
Nests n mate = (i j : ℕ) → i < j → j < n → j < mate i → ¬ (mate i < mate j)

-- the point after the mate of i, on a cycle of n points
abbrev pub after_mate : ℕ → (ℕ → ℕ) → ℕ → ℕ
after_mate n mate i = (mate i + 1) % n

-- v is the colour of one of the points 0 .. k - 1
abbrev pub is_used : (ℕ → ℕ) → ℕ → ℕ → Bool
is_used colour v zero = false
is_used colour v (suc k) = nat_eq (colour k) v || is_used colour v k

-- how many different colours the points 0 .. n - 1 have
abbrev pub colours : (ℕ → ℕ) → ℕ → ℕ
colours colour zero = 0
colours colour (suc k) = cond (is_used colour (colour k) k) (colours colour k) (suc (colours colour k))

-- the step to the point after the mate leads to a point of the same colour
abbrev pub IsKept : ℕ → (ℕ → ℕ) → (ℕ → ℕ) → Type 0
IsKept n mate colour = (i : ℕ) → i < n → colour (after_mate n mate i) ≡ colour i

-- a step applied k times
abbrev pub iterate : (ℕ → ℕ) → ℕ → ℕ → ℕ
iterate step k i = walks.stepped step k i

-- the least of i, step i, .., and the step applied k times
abbrev pub least_of : (ℕ → ℕ) → ℕ → ℕ → ℕ
least_of step zero i = i
least_of step (suc k) i = min (least_of step k i) (iterate step (suc k) i)

-- how many orbits a step that permutes the points 0 .. n - 1 has: how many different least points the orbits have
abbrev pub orbits : ℕ → (ℕ → ℕ) → ℕ
orbits n step = colours (least_of step n) n

-- i and j lie in one orbit of the step
abbrev pub Meet : (ℕ → ℕ) → ℕ → ℕ → Type 0
Meet step i j = (k l : ℕ) × (iterate step k i ≡ iterate step l j)

-- the step permutes the points 0 .. n - 1
abbrev pub IsPermuted : ℕ → (ℕ → ℕ) → Type 0
IsPermuted n step = walks.Permutes (λ i. i < n) step
