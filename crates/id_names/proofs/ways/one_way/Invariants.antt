use Rattle.std.proofs.Common.{◌≡◌, ◌≤◌, ◌+◌, ◌*◌}
use Rattle.bit_words.specs.PackedView.{fields_of}
use Rattle.rank_select.specs.RankView.{counted}
use Rattle.id_names.specs.Ways.{IsFollowed}
use Rattle.id_names.proofs.ways.one_way.Given as goal

abbrev pub invariant-loop : goal.invariant-loop
invariant-loop g l = record {
  followed : IsFollowed (fields_of l.inverse.places) (counted l.inverse.marks) l.way;
  same : l.way.mark ≡ l.mark;
  few : l.way.passed ≤ l.counter;
  grows : l.initial.steps ≤ l.steps;
  steps : l.steps ≤ l.initial.steps + 3 * l.counter;
}
