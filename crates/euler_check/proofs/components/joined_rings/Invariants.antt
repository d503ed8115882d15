use Rattle.euler_check.proofs.Joining.{AreJoining}
use Rattle.euler_check.proofs.components.joined_rings.Given as goal

-- the rings of the rows so far are joined
abbrev pub invariant-loop-row : goal.invariant-loop-row
invariant-loop-row l = AreJoining l.rotation l.rings l.row l.sets
