-- The inverse of a permutation by walking on from a place, with at most one jump back.
use Rattle.std.specs.Prelude.{ℕ, zero, suc, ◌+◌, ◌==◌, Bool, true, false, ◌&&◌, nat_lt, if◌then◌else◌, List, length, slice_index, slice_index_or, Option, None, Some}
use Rattle.bit_words.specs.Bits.{rank}
use Rattle.bit_words.specs.Digits.{digits}

-- how far marks may stand from one another in a cycle, among c numbers
abbrev pub stride : ℕ → ℕ
stride c = digits (c + 2)

-- the back pointer of a marked number
abbrev pub back_from : List Bool → List ℕ → ℕ → ℕ
back_from marks back x = slice_index back (rank true marks x)

-- The number whose place is j, looked for from x on by this many tests at most: the walk follows the places, but from
-- the first marked number that isn't the one it goes back, if it may jump. None where it comes to no number.
unfoldable pub walk : List ℕ → List Bool → List ℕ → ℕ → ℕ → Bool → ℕ → Option ℕ
walk places marks back j zero may_jump x = None
walk places marks back j (suc tests) may_jump x =
    if nat_lt x (length places)
    then
    (if slice_index places x == j
    then Some x
    else
    (if may_jump && slice_index_or marks x false
    then walk places marks back j tests false (back_from marks back x)
    else walk places marks back j tests may_jump (slice_index places x)))
    else None

-- the number that the walk from place j comes to
abbrev pub number_at : List ℕ → List Bool → List ℕ → ℕ → Option ℕ
number_at places marks back j = walk places marks back j (stride (length places) + 1) true j
