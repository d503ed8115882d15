use Rattle.std.proofs.Common.{◌≤◌, ◌<◌, ◌+◌, ◌*◌, length}
use Rattle.bit_words.specs.PackedView.{fields_of}
use Rattle.rank_select.specs.RankView.{counted}
use Rattle.id_names.proofs.Following.{IsAbove}
use Rattle.id_names.proofs.ways.short_cycle.Given as goal

abbrev pub invariant-loop-passed : goal.invariant-loop-passed
invariant-loop-passed g l = record {
  followed : IsAbove (fields_of l.inverse.places) (counted l.inverse.marks) l.least l.number l.passed;
  within : l.number < length (fields_of l.inverse.places);
  grows : l.initial.steps ≤ l.steps;
  steps : l.steps ≤ l.initial.steps + 3 * l.passed;
}
