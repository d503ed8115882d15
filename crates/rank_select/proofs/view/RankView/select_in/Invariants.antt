use Rattle.std.proofs.Common.{◌≡◌, ◌≤◌, ◌+◌, ◌*◌, ◌-◌}
use Rattle.bit_words.specs.Bits.{rank}
use Rattle.rank_select.specs.RankView.{counted}
use Rattle.rank_select.proofs.view.RankView.select_in.Given as goal

abbrev pub invariant-loop-word : goal.invariant-loop-word
invariant-loop-word g l = record {
  below : rank l.kind (counted l.self) (64 * l.word) + l.left ≡ l.j;
  steps : l.steps ≡ l.initial.steps + (l.word - 8 * l.block);
  last : l.word ≤ 8 * l.block + 8;
}
