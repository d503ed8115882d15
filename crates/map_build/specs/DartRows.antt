-- What the rows of edges say of darts.
use Rattle.std.specs.Prelude.{ℕ, ◌+◌, ◌*◌, ◌/◌, ◌%◌, ◌==◌, if◌then◌else◌, List, slice_get, unwrap_or}
use Rattle.plane_model.specs.declared.rows.EdgeRow.{EdgeRow}
use Rattle.plane_model.specs.PlaneMap.{no_edge}

-- the row of a dart's edge
abbrev pub row_at : List EdgeRow → ℕ → EdgeRow
row_at edges dart = unwrap_or (slice_get edges (dart / 2)) no_edge

-- the node that a dart leaves, and the face on its left
abbrev pub start_of_dart : List EdgeRow → ℕ → ℕ
start_of_dart edges dart = if dart % 2 == 0 then (row_at edges dart).start else (row_at edges dart).end

abbrev pub face_of_dart : List EdgeRow → ℕ → ℕ
face_of_dart edges dart = if dart % 2 == 0 then (row_at edges dart).left_face else (row_at edges dart).right_face

-- a number that grows in the order of signed edges
abbrev pub key_of_dart : List EdgeRow → ℕ → ℕ
key_of_dart edges dart = 2 * (row_at edges dart).id + dart % 2
