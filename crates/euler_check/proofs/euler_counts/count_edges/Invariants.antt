use Rattle.std.proofs.Common.{◌*◌, get_or, Some}
use Rattle.euler_check.specs.Counts.{AreCounted}
use Rattle.euler_check.proofs.euler_counts.count_edges.Given as goal

-- the edges so far are counted
abbrev pub invariant-loop-row : goal.invariant-loop-row
invariant-loop-row l = AreCounted l.components.count (λ i. Some (get_or l.components.of_darts (2 * i) 0)) l.row l.counts.items
