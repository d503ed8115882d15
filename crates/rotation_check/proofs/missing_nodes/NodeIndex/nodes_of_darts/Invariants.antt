use Rattle.plane_model.specs.Rows.{rows_of}
use Rattle.rotation_check.proofs.Numbering.{NodesTo}
use Rattle.rotation_check.proofs.missing_nodes.NodeIndex.nodes_of_darts.Given as goal

-- the darts of the rows so far have their nodes
abbrev pub invariant-loop-row : goal.invariant-loop-row
invariant-loop-row l = NodesTo (rows_of l.self.tables.now) l.row l.nodes.items
