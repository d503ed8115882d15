use Rattle.std.proofs.Common.{◌≡◌, drop}
use Rattle.plane_model.specs.Faults.{first_in, node_with_face}
use Rattle.rotation_check.specs.Numbered.{map_of_darts}
use Rattle.rotation_check.proofs.darts.Darts.first_node_with_face.Given as goal

-- the first fault of the rows that are left is the first of all
abbrev pub invariant-loop-row : goal.invariant-loop-row
invariant-loop-row l = first_in (node_with_face (map_of_darts l.self)) (drop l.row l.self.tables.now.nodes) ≡ first_in (node_with_face (map_of_darts l.self)) l.self.tables.now.nodes
