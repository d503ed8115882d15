use Rattle.std.proofs.Common.{take}
use Rattle.rotation_check.specs.Counts.{AreCountsOfEach}
use Rattle.rotation_check.proofs.counts.count_each.Given as goal

-- the values so far are counted
abbrev pub invariant-loop-value : goal.invariant-loop-value
invariant-loop-value l = AreCountsOfEach (take l.value-index l.values) l.bound l.counts.items
