use Rattle.region_tree.specs.Ancestors.{IsLeastOf}
use Rattle.region_tree.proofs.cycles.least.Given as goal

abbrev pub invariant-loop-place : goal.invariant-loop-place
invariant-loop-place l = IsLeastOf l.places l.place-index l.least
