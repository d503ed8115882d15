use Rattle.std.proofs.Common.{◌≡◌, ◌≤◌, ◌+◌, ◌*◌, ◌-◌, ◌<◌, ℕ, true}
use Rattle.bit_words.specs.Bits.{rank}
use Rattle.rank_select.specs.RankView.{counted}
use Rattle.id_names.specs.Faults.{is_rising}
use Rattle.id_names.specs.PartViews.{bound_in, id_in}
use Rattle.id_names.proofs.checking.first_not_rising.Given as goal

abbrev pub invariant-loop-one : goal.invariant-loop-one
invariant-loop-one g l = record {
  place : l.place ≡ rank true (counted l.ids.high) l.one;
  rises : (k : ℕ) → k < l.place → is_rising (bound_in l.ids) (id_in l.ids) k ≡ true;
  first : l.place ≡ 0 → l.last ≡ 0;
  later : 0 < l.place → l.last ≡ id_in l.ids (l.place - 1);
  grows : l.initial.steps ≤ l.steps;
  steps : l.steps ≤ l.initial.steps + l.one + 2 * l.place;
}
