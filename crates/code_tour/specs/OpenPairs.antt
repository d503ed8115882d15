-- The pairs of one kind round a gap, as a stack.
use Rattle.std.specs.Prelude.{ℕ, ◌≡◌, ◌+◌, Bool, true, false, List, [], ◌∷◌, ◌++◌, length, take}
use Rattle.scratch_region.specs.Numbers.{numbers_of}
use Rattle.code_tour.specs.declared.open_pairs.OpenPairs.{OpenPairs}

-- the numbers of the pairs, the outermost first
abbrev pub open_numbers : OpenPairs → List ℕ
open_numbers pairs = take pairs.depth (numbers_of pairs.numbers)

-- how many pairs there is room for
abbrev pub room_of : OpenPairs → ℕ
room_of pairs = length (numbers_of pairs.numbers)

-- a place was passed that opens or closes the pair of this number
abbrev pub Passes : Bool → OpenPairs → OpenPairs → ℕ → Type 0
Passes true before after number = (number ≡ before.opened) × (open_numbers after ≡ open_numbers before ++ number ∷ []) × (after.opened ≡ before.opened + 1) × (after.depth ≡ before.depth + 1)
Passes false before after number = (open_numbers before ≡ open_numbers after ++ number ∷ []) × (after.opened ≡ before.opened) × (after.depth + 1 ≡ before.depth)
