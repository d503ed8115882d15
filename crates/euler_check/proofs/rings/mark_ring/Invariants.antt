use Rattle.std.proofs.Common.{◌-◌, ◌*◌, length}
use Rattle.euler_check.proofs.Walking.{IsMarking}
use Rattle.euler_check.proofs.rings.mark_ring.Given as goal

-- the darts that the walk has passed have the number
abbrev pub invariant-loop : goal.invariant-loop
invariant-loop l = IsMarking l.rotation l.first l.number (2 * length l.rotation.edges - l.counter) l.dart l.initial.numbers l.numbers
