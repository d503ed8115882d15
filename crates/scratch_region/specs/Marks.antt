-- The numbers that are marked.
use Rattle.std.specs.Prelude.{◌≡◌, ℕ, ◌*◌, Bool, false, length}
use Rattle.bit_words.specs.Bits.{bit_of}
use Rattle.scratch_region.specs.declared.marks.Marks.{Marks}

-- the numbers that there is room for are those below this one
abbrev pub room_of : Marks → ℕ
room_of m = 64 * length m.words.now

-- whether a number is in the set; none from the room on is
unfoldable pub is_marked : Marks → ℕ → Bool
is_marked m i = bit_of m.words.now i

-- no number is in the set
abbrev pub IsEmpty : Marks → Type 0
IsEmpty m = (j : ℕ) → is_marked m j ≡ false
