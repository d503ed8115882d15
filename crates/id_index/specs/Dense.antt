-- Rows in an array over ids.
use Rattle.std.specs.Prelude.{ℕ, ◌-◌, ◌==◌, if◌then◌else◌, List, slice_index, Option, Some, None}

-- the row that a slot holds: none at 0, and else one less
abbrev pub row_of_slot : ℕ → Option ℕ
row_of_slot slot = if slot == 0 then None else Some (slot - 1)

-- the row in the slot of an id
abbrev pub row_at : List ℕ → ℕ → Option ℕ
row_at slots id = row_of_slot (slice_index slots id)
