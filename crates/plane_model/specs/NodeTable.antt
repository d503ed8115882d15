-- The rows of a node table, as half of the memory holds them.
use Rattle.plane_model.specs.declared.rows.NodeRow.{NodeRow}
use Rattle.plane_model.specs.declared.node_table.NarrowNode.{NarrowNode}

-- the row whose ids are these
abbrev pub widened : NarrowNode → NodeRow
widened n = record { id = n.id; face = n.face }
