use Rattle.euler_check.specs.Counts.{AreLabelParts, HasNumber}
use Rattle.euler_check.proofs.places.components_of_rings.Given as goal

-- the rings of the darts so far have their components
abbrev pub invariant-loop-dart : goal.invariant-loop-dart
invariant-loop-dart l = AreLabelParts l.components (HasNumber l.rings) l.rings.count l.dart l.numbers.items
