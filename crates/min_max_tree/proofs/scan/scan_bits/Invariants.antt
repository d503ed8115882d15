use Rattle.std.specs.Prelude.{pos, ◌-ℤ◌}
use Rattle.std.proofs.Common.{◌≡◌, ◌<◌, ◌≤◌, ◌+◌, ◌-◌, ◌/◌, ◌%◌}
use Rattle.bit_words.specs.Bits.{excess}
use Rattle.bit_words.specs.BitView.{bits_of}
use Rattle.min_max_tree.specs.Search.{Rests}
use Rattle.min_max_tree.proofs.scan.scan_bits.Given as goal

abbrev pub invariant-loop-at : goal.invariant-loop-at
invariant-loop-at g l = record {
  low : l.from ≤ l.at;
  high : l.at ≤ l.to;
  rests : Rests (bits_of l.bits) (excess (bits_of l.bits) l.from -ℤ pos l.need) l.from l.at l.need l.left;
  first : l.at ≡ l.from → l.steps ≡ l.initial.steps;
  later : l.from < l.at → l.at < l.to → l.at % 64 ≡ 0;
  grows : l.initial.steps ≤ l.steps;
  count : l.steps ≤ l.initial.steps + ((l.at + 63) / 64 - l.from / 64);
}

abbrev pub decreases-loop-at : goal.decreases-loop-at
decreases-loop-at g l = l.to - l.at
