use Rattle.std.proofs.Common.{◌≡◌, map, take}
use Rattle.plane_model.specs.Worked.{node}
use Rattle.spanning_pair.proofs.tests.node_rows.Given as goal

-- the rows of the nodes so far
abbrev pub invariant-loop-id : goal.invariant-loop-id
invariant-loop-id l = l.rows ≡ map node (take l.id-index l.ids)
