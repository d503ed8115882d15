use Rattle.std.specs.Option.{is_some}
use Rattle.std.proofs.Common.{◌≡◌, ◌≤◌, ◌<◌, ◌+◌, ◌*◌, ℕ, true}
use Rattle.bit_words.specs.Bits.{rank}
use Rattle.rank_select.specs.RankView.{counted}
use Rattle.id_names.specs.PartViews.{number_in}
use Rattle.id_names.proofs.at_once.all_point_back.Given as goal

abbrev pub invariant-loop-place : goal.invariant-loop-place
invariant-loop-place g l = record {
  marks : l.marks ≡ rank true (counted l.inverse.marks) l.place;
  found : (place : ℕ) → place < l.place → is_some (number_in l.inverse place) ≡ true;
  grows : l.initial.steps ≤ l.steps;
  steps : l.steps ≤ l.initial.steps + 5 * l.place;
}
