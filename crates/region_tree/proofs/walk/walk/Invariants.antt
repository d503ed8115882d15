use Rattle.std.proofs.Common.{length}
use Rattle.region_tree.specs.Walked.{left_of, step_bits}
use Rattle.region_tree.proofs.Walking.{IsWalked}
use Rattle.region_tree.proofs.walk.walk.Given as goal

abbrev pub invariant-loop-step : goal.invariant-loop-step
invariant-loop-step l = IsWalked l.slots l.bits.items l.order.items l.left.items

abbrev pub decreases-loop-step : goal.decreases-loop-step
decreases-loop-step l = length (left_of (step_bits l.slots) l.left.items)
