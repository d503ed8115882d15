use Rattle.std.proofs.Common.{take}
use Rattle.rotation_check.specs.Counts.{ArePlacesOfEach}
use Rattle.rotation_check.proofs.counts.place_each.Given as goal

-- each value so far has a place
abbrev pub invariant-loop-place : goal.invariant-loop-place
invariant-loop-place l = ArePlacesOfEach (take l.place l.values) l.bound l.places.items
