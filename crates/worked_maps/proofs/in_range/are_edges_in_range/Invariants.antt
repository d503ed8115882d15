use Rattle.std.specs.List.{list_all}
use Rattle.std.proofs.Common.{◌≡◌, drop}
use Rattle.plane_model.specs.InRange.{is_edge_in_range}
use Rattle.worked_maps.proofs.in_range.are_edges_in_range.Given as goal

-- whether the rows that are left are in range tells whether all are
abbrev pub invariant-loop-row : goal.invariant-loop-row
invariant-loop-row l = list_all is_edge_in_range (drop l.row l.edges) ≡ list_all is_edge_in_range l.edges
