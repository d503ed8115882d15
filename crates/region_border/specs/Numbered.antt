-- Signed edges by number: their places among all in order, and their numbers among the marks.
use Rattle.std.specs.Prelude.{ℕ, ◌+◌, ◌*◌, ℤ, pos, Bool, not, ◌&&◌, if◌then◌else◌, slice_index, slice_index_or, unwrap_or}
use Rattle.topo_base.specs.SignedEdge.{edge_of, is_forward}
use Rattle.id_names.specs.Names.{number_of}
use Rattle.plane_model.specs.PlaneMap.{signed_edges}
use Rattle.plane_model.specs.Border.{is_border}
use Rattle.file_laws.specs.Contents.{Contents}
use Rattle.navigate.specs.Bound.{map_with}

-- the signed edge at a place of all in their order
unfoldable pub signed_number : Contents → ℕ → ℤ
signed_number c place = slice_index_or (signed_edges (map_with c)) place (pos 0)

-- twice the number of its edge, and 1 more where it is backward
unfoldable pub mark_of : Contents → ℤ → ℕ
mark_of c d = let number = unwrap_or (number_of c.edges (edge_of d)) 0 in if is_forward d then 2 * number else 2 * number + 1

-- whether the signed edge at a place is a border edge of a region, by its number, and not marked
abbrev pub is_fresh_border : Contents → ℕ → (ℕ → Bool) → ℕ → Bool
is_fresh_border c region marked place = let d = signed_number c place in not (marked (mark_of c d)) && is_border (map_with c) (slice_index c.regions region) d
