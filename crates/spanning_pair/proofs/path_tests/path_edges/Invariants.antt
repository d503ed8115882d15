use Rattle.std.proofs.Common.{◌≡◌, true, length}
use Rattle.std.specs.List.{list_all}
use Rattle.plane_model.specs.InRange.{is_edge_in_range}
use Rattle.spanning_pair.proofs.path_tests.path_edges.Given as goal

abbrev pub invariant-loop-edge : goal.invariant-loop-edge
invariant-loop-edge l = (list_all is_edge_in_range l.rows ≡ true) × (length l.rows ≡ l.edge)
