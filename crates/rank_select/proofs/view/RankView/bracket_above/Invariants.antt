use Rattle.std.proofs.Common.{◌≡◌, ◌<◌, ◌≤◌, ◌+◌, ◌*◌, ◌-◌, length}
use Rattle.bit_words.specs.Bits.{rank}
use Rattle.bit_words.specs.Digits.{digits}
use Rattle.rank_select.specs.Counts.{blocks}
use Rattle.rank_select.specs.RankView.{counted}
use Rattle.rank_select.proofs.view.RankView.bracket_above.Given as goal

abbrev pub invariant-loop-stride : goal.invariant-loop-stride
invariant-loop-stride g l = record {
  order : l.low < l.end;
  before : l.below ≡ rank l.kind (counted l.self) (512 * l.low);
  below : l.below ≤ l.j;
  some : 1 ≤ l.stride;
  grows : l.initial.steps ≤ l.steps;
  doubled : l.steps + digits l.fn.start.stride ≡ l.initial.steps + digits l.stride;
  steps : l.steps ≤ l.initial.steps + digits (blocks (length (counted l.self)));
}

abbrev pub decreases-loop-stride : goal.decreases-loop-stride
decreases-loop-stride g l = l.end - l.low
