use Rattle.euler_check.proofs.LeastFailing.{LeastTo}
use Rattle.euler_check.proofs.euler_counts.EulerCounts.first_not_plane.Given as goal

-- the least edge of those so far whose component isn't plane
abbrev pub invariant-loop-row : goal.invariant-loop-row
invariant-loop-row l = LeastTo l.self.rotation.now l.row l.least
