-- The rows of contents by their places in the order of ids.
use Rattle.std.specs.Prelude.{ℕ, List, ◌∷◌, slice_index, Option, unwrap_or}
use Rattle.plane_model.specs.declared.rows.NodeRow.{NodeRow}
use Rattle.plane_model.specs.declared.rows.EdgeRow.{EdgeRow}
use Rattle.plane_model.specs.declared.rows.FaceRow.{FaceRow}
use Rattle.plane_model.specs.declared.rows.RegionRow.{RegionRow}
use Rattle.plane_model.specs.declared.rows.MemberRow.{MemberRow}
use Rattle.plane_model.specs.Sets.{rising}
use Rattle.id_names.specs.Names.{number_of}
use Rattle.file_laws.specs.Contents.{Contents}
use Rattle.file_laws.specs.MapOfFile.{node_row, edge_row, region_row, member_row, place_of_face}
use Rattle.table_dump.specs.ByRank.{id_at_rank}

-- the row of the id at a place, from the id and its number
abbrev pub row_at_rank : {R : Type 0} → List ℕ → (ℕ → ℕ → R) → ℕ → R
row_at_rank ids row place = let id = id_at_rank ids place in row id (unwrap_or (number_of ids id) 0)

abbrev pub node_at_rank : Contents → ℕ → NodeRow
node_at_rank c place = row_at_rank c.nodes (node_row c) place

abbrev pub edge_at_rank : Contents → ℕ → EdgeRow
edge_at_rank c place = row_at_rank c.edges (edge_row c) place

abbrev pub face_at_rank : Contents → ℕ → FaceRow
face_at_rank c place = record { id = id_at_rank c.faces place }

abbrev pub region_at_rank : Contents → ℕ → RegionRow
region_at_rank c place = row_at_rank c.regions (region_row c) place

-- the face at a place, where face 0 comes before all others
abbrev pub face_with_zero : Contents → ℕ → ℕ
face_with_zero c place = slice_index (0 ∷ rising c.faces) place

-- the row that puts it into a region, where it is in one
abbrev pub members_at_rank : Contents → ℕ → List MemberRow
members_at_rank c place = let face = face_with_zero c place in member_row c face (place_of_face c face)

-- the face that contains the node of a number, where the node is isolated
abbrev pub enclosing_face : Contents → ℕ → Option ℕ
enclosing_face c node = (node_row c 0 node).face
