use Rattle.std.proofs.Common.{length, ◌-◌}
use Rattle.id_names.proofs.HighBits.{IsPushing}
use Rattle.id_names.proofs.rising_words.push_ones.Given as goal

-- a one for each entry so far
abbrev pub invariant-loop-place : goal.invariant-loop-place
invariant-loop-place l = IsPushing l.low l.high l.entries l.from l.place l.fn.bits l.bits

abbrev pub decreases-loop-place : goal.decreases-loop-place
decreases-loop-place l = length l.entries - l.place
