use Rattle.std.proofs.Common.{◌≡◌, ◌<◌, ◌≤◌, ◌+◌, ◌*◌, ◌-◌, length}
use Rattle.bit_words.specs.Bits.{rank}
use Rattle.bit_words.specs.Digits.{digits}
use Rattle.rank_select.specs.Counts.{blocks}
use Rattle.rank_select.specs.RankView.{counted}
use Rattle.rank_select.proofs.view.RankView.block_in.Given as goal

abbrev pub invariant-loop-high : goal.invariant-loop-high
invariant-loop-high g l = record {
  order : l.low < l.high;
  within : l.high ≤ blocks (length (counted l.self));
  before : l.before ≡ rank l.kind (counted l.self) (512 * l.low);
  below : l.before ≤ l.j;
  above : l.j < rank l.kind (counted l.self) (512 * l.high);
  grows : l.initial.steps ≤ l.steps;
  steps : l.steps + digits (l.high - l.low - 1) ≤ l.initial.steps + digits (blocks (length (counted l.self)));
}

abbrev pub decreases-loop-high : goal.decreases-loop-high
decreases-loop-high g l = l.high - l.low
