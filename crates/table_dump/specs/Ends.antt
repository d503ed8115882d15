-- The ends of edges in a list: three numbers for each, the forward end of an edge before the other one.
use Rattle.std.specs.Prelude.{ℕ, ℤ, ◌+◌, ◌*◌, Bool, true, false, List, slice_index, slice_set}
use Rattle.std.specs.Int.{cast_signed, w64}

-- the end of the edge at a place in the order of ids
abbrev pub end_at : ℕ → Bool → ℕ
end_at place true = 2 * place
end_at place false = 2 * place + 1

-- the ids of its node and its face, and the signed edge that follows on its ring
abbrev pub node_in : List ℕ → ℕ → ℕ
node_in ends e = slice_index ends (3 * e)

abbrev pub face_in : List ℕ → ℕ → ℕ
face_in ends e = slice_index ends (3 * e + 1)

abbrev pub next_in : List ℕ → ℕ → ℤ
next_in ends e = cast_signed w64 (slice_index ends (3 * e + 2))

-- ends after these ids were put
abbrev pub with_sides : List ℕ → ℕ → ℕ → ℕ → List ℕ
with_sides ends e node face = slice_set (slice_set ends (3 * e) node) (3 * e + 1) face
