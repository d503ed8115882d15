use Rattle.std.proofs.Common.{◌≡◌, ◌<◌, ℕ, length}
use Rattle.std.specs.Prelude.{slice_index}
use Rattle.plane_model.specs.PlaneMap.{side}
use Rattle.rotation_check.specs.Darts.{map_of_rotation, signed_edge}
use Rattle.islands.proofs.numbers.face_numbers.Given as goal

abbrev pub invariant-loop-dart : goal.invariant-loop-dart
invariant-loop-dart l = record {
  many : length l.numbers.items ≡ l.dart-index;
  below : (k : ℕ) → k < length l.numbers.items → slice_index l.numbers.items k < length l.ids;
  sides : (k : ℕ) → k < length l.numbers.items → slice_index l.ids (slice_index l.numbers.items k) ≡ side (map_of_rotation l.rotation) (signed_edge l.rotation.edges (slice_index l.darts k));
}
