use Rattle.std.proofs.Common.{◌≡◌, drop}
use Rattle.plane_model.specs.Faults.{first_in, mixed_ring}
use Rattle.rotation_check.specs.Darts.{map_of_rotation}
use Rattle.rotation_check.proofs.DartLists.{dart_edges}
use Rattle.euler_check.specs.Labels.{label_fault}
use Rattle.euler_check.proofs.labels.first_mixed_ring.Given as goal

-- the first fault of the darts that are left is the first of all
abbrev pub invariant-loop-dart : goal.invariant-loop-dart
invariant-loop-dart l = first_in (mixed_ring (map_of_rotation l.rotation)) (drop l.dart (dart_edges l.rotation.edges)) ≡ label_fault l.rotation
