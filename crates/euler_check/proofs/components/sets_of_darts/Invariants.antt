use Rattle.std.proofs.Common.{◌≡◌, map, take, slice_index}
use Rattle.euler_check.proofs.components.sets_of_darts.Given as goal

abbrev pub invariant-loop-ring : goal.invariant-loop-ring
invariant-loop-ring l = l.numbers.items ≡ map (slice_index l.sets.of_members) (take l.ring-index l.rings)
