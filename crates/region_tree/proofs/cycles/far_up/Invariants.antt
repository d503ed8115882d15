use Rattle.std.proofs.Common.{◌≡◌, ◌≤◌, ◌-◌, length}
use Rattle.region_tree.specs.Ancestors.{ancestors}
use Rattle.region_tree.proofs.cycles.far_up.Given as goal

abbrev pub invariant-loop-steps : goal.invariant-loop-steps
invariant-loop-steps l = record { some : 1 ≤ l.steps; is : l.far.items ≡ ancestors l.parents l.steps }

abbrev pub decreases-loop-steps : goal.decreases-loop-steps
decreases-loop-steps l = length l.parents - l.steps
