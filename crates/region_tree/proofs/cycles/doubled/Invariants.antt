use Rattle.std.proofs.Common.{◌≡◌, map, take}
use Rattle.std.specs.Prelude.{option_and_then}
use Rattle.region_tree.specs.Ancestors.{parent_at}
use Rattle.region_tree.proofs.cycles.doubled.Given as goal

abbrev pub invariant-loop-place : goal.invariant-loop-place
invariant-loop-place l = l.twice.items ≡ map (option_and_then (parent_at l.reached)) (take l.place-index l.reached)
