-- The rows of an edge table, as half of the memory holds them.
use Rattle.plane_model.specs.declared.rows.EdgeRow.{EdgeRow}
use Rattle.plane_model.specs.declared.edge_table.NarrowEdge.{NarrowEdge}

-- the row whose numbers are these
abbrev pub widened : NarrowEdge → EdgeRow
widened e = record { id = e.id; start = e.start; end = e.end; next_left = e.next_left; next_right = e.next_right; left_face = e.left_face; right_face = e.right_face }
