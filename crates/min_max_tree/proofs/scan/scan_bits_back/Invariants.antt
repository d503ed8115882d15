use Rattle.std.specs.Prelude.{pos, ◌-ℤ◌}
use Rattle.std.proofs.Common.{◌≤◌, ◌+◌, ◌/◌}
use Rattle.bit_words.specs.Bits.{excess}
use Rattle.bit_words.specs.BitView.{bits_of}
use Rattle.min_max_tree.specs.SearchBack.{Remains}
use Rattle.min_max_tree.proofs.scan.scan_bits_back.Given as goal

abbrev pub invariant-loop-at : goal.invariant-loop-at
invariant-loop-at g l = record {
  low : l.from ≤ l.at;
  high : l.at ≤ l.to;
  remains : Remains (bits_of l.bits) (excess (bits_of l.bits) l.to -ℤ pos l.need) l.at l.to l.need l.left;
  grows : l.initial.steps ≤ l.steps;
  count : l.steps + (l.at + 63) / 64 ≤ l.initial.steps + (l.to + 63) / 64;
}

abbrev pub decreases-loop-at : goal.decreases-loop-at
decreases-loop-at g l = l.at
