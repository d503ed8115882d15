use Rattle.std.proofs.Common.{◌≤◌, ◌+◌, ◌*◌, length}
use Rattle.bit_words.specs.Digits.{digits}
use Rattle.file_laws.specs.Faults.{is_ordered}
use Rattle.pemb_file.specs.PlacedView.{contents_of_placed}
use Rattle.pemb_file.proofs.Nots.{PassBelow}
use Rattle.pemb_file.proofs.places.Placed.wrong_order.Given as goal

abbrev pub invariant-loop-j : goal.invariant-loop-j
invariant-loop-j g l = record {
  pass : PassBelow (is_ordered (contents_of_placed l.self)) l.j;
  grows : l.initial.steps ≤ l.steps;
  cost : l.steps ≤ l.initial.steps + l.j * (26 * digits (length (contents_of_placed l.self).code.a + 2) + 242);
}
