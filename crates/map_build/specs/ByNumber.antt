-- Lists by number: what stands at a position of a walk stands at the position's number.
use Rattle.std.specs.Prelude.{◌≡◌, ℕ, ◌<◌, Bool, IsTrue, List, length, slice_index_or}

-- of the first n positions, those that count
pub record StandByNumber {X : Type 0} (blank : X) (number : ℕ → ℕ) (value : ℕ → X) (counts : ℕ → Bool) (n : ℕ) (xs : List X) : Type 0 where
  pub within : (p : ℕ) → p < n → IsTrue (counts p) → number p < length xs
  pub stands : (p : ℕ) → p < n → IsTrue (counts p) → slice_index_or xs (number p) blank ≡ value p
