use Rattle.std.proofs.Common.{◌≤◌, ◌+◌, ◌*◌, length}
use Rattle.bit_words.specs.Digits.{digits}
use Rattle.bit_words.specs.PackedView.{fields_of}
use Rattle.rank_select.specs.RankView.{counted}
use Rattle.id_names.specs.Ways.{IsOnCycle, AreMany}
use Rattle.id_names.proofs.ways.on_cycles.Given as goal

abbrev pub invariant-loop-least : goal.invariant-loop-least
invariant-loop-least g l = record {
  many : AreMany (IsOnCycle (fields_of l.inverse.places) (counted l.inverse.marks) (fields_of l.inverse.back) l.least) l.count;
  few : l.count ≤ 65 * l.least;
  grows : l.initial.steps ≤ l.steps;
  steps : l.steps ≤ l.initial.steps + l.least * (3 * digits (length (fields_of l.inverse.places) + 2) + 3);
}
