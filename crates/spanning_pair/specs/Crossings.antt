-- Edges that are not of the tree, and whether two of them cross.
use Rattle.std.specs.Prelude.{◌≡◌, ◌≢◌, ℕ, ◌<◌, Bool, true, false}
use Rattle.spanning_pair.specs.Darts.{reverse_dart}

-- At the place r an edge ends that began at p, while one that began later, at q, is open. Neither is a tree edge.
pub record ClosesOver (dart : ℕ → ℕ) (tree : ℕ → Bool) (p q r : ℕ) : Type 0 where
  pub later : p < q
  pub before : q < r
  pub other : tree p ≡ false
  pub other_later : tree q ≡ false
  pub closes : dart r ≡ reverse_dart (dart p)
  pub still_open : (s : ℕ) → s < r → dart s ≢ reverse_dart (dart q)

-- the first place where that is so, the dart that stands there, and where the other edge ends
pub record IsFirstCrossing (dart : ℕ → ℕ) (tree : ℕ → Bool) (n closing : ℕ) : Type 0 where
  pub begin : ℕ
  pub later_begin : ℕ
  pub end : ℕ
  pub later_end : ℕ
  pub crossing : ClosesOver dart tree begin later_begin end
  pub ends_later : end < later_end
  pub within : later_end < n
  pub closes_later : dart later_end ≡ reverse_dart (dart later_begin)
  pub closed : closing ≡ dart end
  pub first : (p q r : ℕ) → r < end → ClosesOver dart tree p q r → ⊥

-- no two edges that are not of the tree interleave
pub record OthersNest (dart : ℕ → ℕ) (tree : ℕ → Bool) (n : ℕ) : Type 0 where
  pub nest : (p q r s : ℕ) → p < q → q < r → r < s → s < n → tree p ≡ false → tree q ≡ false
      → dart r ≡ reverse_dart (dart p) → dart s ≢ reverse_dart (dart q)

-- each edge has two places, and is a tree edge at both or at none
pub record ArePairs (dart : ℕ → ℕ) (tree first : ℕ → Bool) (n : ℕ) : Type 0 where
  pub once : (p q : ℕ) → p < n → q < n → dart p ≡ dart q → p ≡ q
  pub both_tree : (p q : ℕ) → p < n → q < n → dart q ≡ reverse_dart (dart p) → tree p ≡ tree q
  pub first_new : (p q : ℕ) → p < n → first p ≡ true → q < p → dart q ≢ reverse_dart (dart p)
  pub first_old : (p : ℕ) → p < n → first p ≡ false → (q : ℕ) × (q < p) × (dart q ≡ reverse_dart (dart p))
  pub mate : (p : ℕ) → p < n → (q : ℕ) × (q < n) × (dart q ≡ reverse_dart (dart p))
