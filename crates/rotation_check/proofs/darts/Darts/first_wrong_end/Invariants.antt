use Rattle.std.proofs.Common.{◌≡◌, drop}
use Rattle.plane_model.specs.Faults.{either_way, first_in, wrong_end}
use Rattle.rotation_check.specs.Numbered.{map_of_darts}
use Rattle.rotation_check.proofs.DartLists.{dart_edges}
use Rattle.rotation_check.proofs.darts.Darts.first_wrong_end.Given as goal

-- the first fault of the darts that are left is the first of all
abbrev pub invariant-loop-dart : goal.invariant-loop-dart
invariant-loop-dart l =
    first_in (wrong_end (map_of_darts l.self)) (drop l.dart (dart_edges l.self.tables.now.edges)) ≡ first_in (either_way (wrong_end (map_of_darts l.self))) l.self.tables.now.edges
