use Rattle.std.proofs.Common.{◌≡◌, ◌≤◌, ◌+◌, ◌-◌, true}
use Rattle.bit_words.specs.Bits.{rank}
use Rattle.bit_words.specs.BitView.{bits_of}
use Rattle.turan_code.proofs.count.ones_between.Given as goal

abbrev pub invariant-loop-at : goal.invariant-loop-at
invariant-loop-at g l = record {
  low : l.from ≤ l.at;
  high : l.at ≤ l.to;
  ones : rank true (bits_of l.bits) l.from + l.ones ≡ rank true (bits_of l.bits) l.at;
  few : l.ones ≤ l.at - l.from;
  grows : l.initial.steps ≤ l.steps;
  count : l.steps ≤ l.initial.steps + (l.at - l.from);
}

abbrev pub decreases-loop-at : goal.decreases-loop-at
decreases-loop-at g l = l.to - l.at
