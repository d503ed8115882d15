use Rattle.std.proofs.Common.{◌≡◌, map, take}
use Rattle.std.specs.Prelude.{slice_index}
use Rattle.islands.proofs.numbers.component_numbers.Given as goal

abbrev pub invariant-loop-dart : goal.invariant-loop-dart
invariant-loop-dart l = l.numbers.items ≡ map (slice_index l.parts.components.of_darts) (take l.dart-index l.darts)
