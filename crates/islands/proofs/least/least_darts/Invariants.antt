use Rattle.std.proofs.Common.{◌≡◌, length}
use Rattle.plane_model.specs.PlaneMap.{rings}
use Rattle.plane_model.specs.Component.{component}
use Rattle.rotation_check.specs.Darts.{map_of_rotation}
use Rattle.islands.proofs.LeastDarts.{AreFirsts}
use Rattle.islands.proofs.least.least_darts.Given as goal

abbrev pub invariant-loop-dart : goal.invariant-loop-dart
invariant-loop-dart l = record {
  marks : length l.seen.items ≡ l.parts.components.count;
  components : AreFirsts l.rotation.edges (rings (map_of_rotation l.rotation)) (component (map_of_rotation l.rotation)) l.parts.components.of_darts l.dart-items l.dart-index l.seen.items l.components.items;
}
