use Rattle.std.proofs.Common.{◌≡◌, ◌<◌, ℕ, true}
use Rattle.std.specs.Prelude.{slice_index}
use Rattle.islands.specs.Rounds.{is_marked}
use Rattle.islands.proofs.faults.first_unreached.Given as goal

abbrev pub invariant-loop-dart : goal.invariant-loop-dart
invariant-loop-dart l = (j : ℕ) → j < l.dart-index → is_marked l.reached (slice_index l.parts.components.of_darts (slice_index l.darts j)) ≡ true
