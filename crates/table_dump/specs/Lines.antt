-- The lines of a table, by the places of its rows.
use Rattle.std.specs.Prelude.{ℕ, ◌+◌, List, [], ◌∷◌, map, flat_map, length, decimal}
use Rattle.std.specs.List.{range_with_len}
use Rattle.topo_base.specs.declared.refusal.Table.{Table}
use Rattle.topo_base.specs.declared.refusal.Table.TheVariants as table
use Rattle.plane_model.specs.declared.rows.NodeRow.{NodeRow}
use Rattle.plane_model.specs.declared.rows.EdgeRow.{EdgeRow}
use Rattle.plane_model.specs.declared.rows.FaceRow.{FaceRow}
use Rattle.plane_model.specs.declared.rows.RegionRow.{RegionRow}
use Rattle.plane_model.specs.declared.rows.MemberRow.{MemberRow}
use Rattle.plane_model.specs.Reading.{columns, column_name}
use Rattle.plane_model.specs.Texts.{text_line, number_or_empty, edge_fields}
use Rattle.file_laws.specs.Contents.{Contents}
use Rattle.table_dump.specs.Places.{node_at_rank, edge_at_rank, face_at_rank, region_at_rank, members_at_rank}

-- the lines of rows
abbrev pub node_text : NodeRow → List ℕ
node_text r = text_line (decimal r.id ∷ number_or_empty r.face ∷ [])

abbrev pub edge_text : EdgeRow → List ℕ
edge_text r = text_line (edge_fields r)

abbrev pub face_text : FaceRow → List ℕ
face_text r = text_line (decimal r.id ∷ [])

abbrev pub region_text : RegionRow → List ℕ
region_text r = text_line (decimal r.id ∷ number_or_empty r.parent ∷ [])

abbrev pub member_text : MemberRow → List ℕ
member_text r = text_line (decimal r.region ∷ decimal r.face ∷ [])

-- the line above all rows
abbrev pub header_line : Table → List ℕ
header_line t = text_line (map column_name (columns t))

-- how many places a table has: one for each row, and in the table of members one for each face and for face 0
abbrev pub row_count : Contents → Table → ℕ
row_count c table.Node = length c.nodes
row_count c table.Edge = length c.edges
row_count c table.Face = length c.faces
row_count c table.Region = length c.regions
row_count c table.Member = length c.faces + 1

-- the line at a place; nothing where a face is in no region
abbrev pub line_at : Contents → Table → ℕ → List ℕ
line_at c table.Node place = node_text (node_at_rank c place)
line_at c table.Edge place = edge_text (edge_at_rank c place)
line_at c table.Face place = face_text (face_at_rank c place)
line_at c table.Region place = region_text (region_at_rank c place)
line_at c table.Member place = flat_map member_text (members_at_rank c place)

-- the lines of so many places from one on
abbrev pub lines_from : Contents → Table → ℕ → ℕ → List ℕ
lines_from c t place count = flat_map (line_at c t) (range_with_len place count)
