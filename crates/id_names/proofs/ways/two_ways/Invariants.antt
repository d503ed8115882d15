use Rattle.std.proofs.Common.{◌≡◌, ◌≤◌, ◌+◌, ◌*◌}
use Rattle.bit_words.specs.PackedView.{fields_of}
use Rattle.rank_select.specs.RankView.{counted}
use Rattle.id_names.specs.Ways.{IsFollowed}
use Rattle.id_names.proofs.ways.two_ways.Given as goal

abbrev pub invariant-loop : goal.invariant-loop
invariant-loop g l = record {
  one : IsFollowed (fields_of l.inverse.places) (counted l.inverse.marks) l.one;
  other : IsFollowed (fields_of l.inverse.places) (counted l.inverse.marks) l.other;
  first : l.one.mark ≡ l.first;
  second : l.other.mark ≡ l.second;
  few_one : l.one.passed ≤ l.counter;
  few_other : l.other.passed ≤ l.counter;
  grows : l.initial.steps ≤ l.steps;
  steps : l.steps ≤ l.initial.steps + 6 * l.counter;
}
