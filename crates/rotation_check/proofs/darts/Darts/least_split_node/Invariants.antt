use Rattle.plane_model.specs.Rows.{rows_of}
use Rattle.rotation_check.proofs.SplitNodes.{LeastTo, is_split_at, node_ids_of}
use Rattle.rotation_check.proofs.darts.Darts.least_split_node.Given as goal

-- the least of the nodes so far
abbrev pub invariant-loop-row : goal.invariant-loop-row
invariant-loop-row l = LeastTo (is_split_at (rows_of l.self.tables.now)) (node_ids_of (rows_of l.self.tables.now)) l.row l.least
