use Rattle.std.proofs.Common.{◌≡◌, ◌≤◌, ◌+◌, ◌*◌, ◌<◌, ℕ, length, true}
use Rattle.bit_words.specs.PackedView.{fields_of}
use Rattle.bit_words.specs.Digits.{digits}
use Rattle.id_names.specs.Faults.{is_ordered}
use Rattle.id_names.specs.PartViews.{number_in}
use Rattle.id_names.proofs.checking.first_by_walks.Given as goal

abbrev pub invariant-loop-number : goal.invariant-loop-number
invariant-loop-number g l = record {
  found : (k : ℕ) → k < l.number → is_ordered (fields_of l.inverse.places) (number_in l.inverse) k ≡ true;
  grows : l.initial.steps ≤ l.steps;
  steps : l.steps ≤ l.initial.steps + l.number * (3 * digits (length (fields_of l.inverse.places) + 2) + 16);
}
