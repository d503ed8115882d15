use Rattle.std.proofs.Common.{◌≡◌, map, take}
use Rattle.plane_model.specs.Worked.{edge}
use Rattle.spanning_pair.proofs.tests.edge_rows.Given as goal

-- the rows of the edges so far
abbrev pub invariant-loop-id : goal.invariant-loop-id
invariant-loop-id l = l.rows ≡ map (λ e. edge e.0 e.1 e.2 e.3 e.4 e.5 e.6) (take l.id-index l.edges)
