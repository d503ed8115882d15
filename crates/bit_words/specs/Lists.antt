-- Lists made by index, the last index of a test, a test of an index, and the first of some options.
use Rattle.std.specs.Prelude.{ℕ, zero, suc, ◌==◌, Bool, false, cond, List, [], ◌∷◌, map, Option, None, Some}
use Rattle.std.specs.List.{range_with_len}

-- f 0, f 1 and so on, n of them
unfoldable pub tabulate : {X : Type 0} → ℕ → (ℕ → X) → List X
tabulate n f = map f (range_with_len 0 n)

-- the greatest number below n that passes a test
unfoldable pub last_below : (ℕ → Bool) → ℕ → Option ℕ
last_below test zero = None
last_below test (suc n) = cond (test n) (Some n) (last_below test n)

-- whether there is one, and it is this number
abbrev pub is_at : Option ℕ → ℕ → Bool
is_at None j = false
is_at (Some i) j = i == j

-- the first there is
unfoldable pub first_some : {X : Type 0} → List (Option X) → Option X
first_some [] = None
first_some (None ∷ rest) = first_some rest
first_some (Some x ∷ rest) = Some x
