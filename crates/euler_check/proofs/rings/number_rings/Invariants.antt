use Rattle.plane_model.specs.PlaneMap.{ring}
use Rattle.rotation_check.specs.Darts.{map_of_rotation}
use Rattle.euler_check.specs.Marks.{FirstAreNumbered}
use Rattle.euler_check.proofs.rings.number_rings.Given as goal

-- the rings of the darts so far have their numbers
abbrev pub invariant-loop-dart : goal.invariant-loop-dart
invariant-loop-dart l = FirstAreNumbered l.rotation.edges (ring (map_of_rotation l.rotation)) l.dart l.count l.numbers
