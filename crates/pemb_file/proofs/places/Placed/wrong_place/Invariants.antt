use Rattle.std.proofs.Common.{◌≤◌, ◌+◌, ◌*◌, ◌&&◌, length}
use Rattle.std.specs.Prelude.{slice_index}
use Rattle.bit_words.specs.Digits.{digits}
use Rattle.code_laws.specs.Code.{start_of}
use Rattle.file_laws.specs.Faults.{is_place, begins_before}
use Rattle.pemb_file.specs.PlacedView.{contents_of_placed}
use Rattle.pemb_file.proofs.Nots.{PassBelow}
use Rattle.pemb_file.proofs.places.Placed.wrong_place.Given as goal

abbrev pub invariant-loop-component : goal.invariant-loop-component
invariant-loop-component g l = record {
  pass : PassBelow (λ k. is_place (contents_of_placed l.self) (slice_index (contents_of_placed l.self).places k) && begins_before (contents_of_placed l.self) (slice_index (contents_of_placed l.self).places k) (start_of (contents_of_placed l.self).code k)) l.component;
  grows : l.initial.steps ≤ l.steps;
  cost : l.steps ≤ l.initial.steps + l.component * (12 * digits (length (contents_of_placed l.self).code.a + 2) + 50);
}
