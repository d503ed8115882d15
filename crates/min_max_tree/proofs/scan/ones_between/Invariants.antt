use Rattle.std.proofs.Common.{◌≡◌, ◌≤◌, ◌+◌, ◌*◌, ◌-◌, ◌/◌, true, min}
use Rattle.bit_words.specs.Bits.{rank}
use Rattle.bit_words.specs.BitView.{bits_of}
use Rattle.min_max_tree.proofs.scan.ones_between.Given as goal

abbrev pub invariant-loop-word : goal.invariant-loop-word
invariant-loop-word g l = record {
  ones : rank true (bits_of l.bits) l.from + l.ones ≡ rank true (bits_of l.bits) (min l.to (64 * l.word));
  few : l.ones ≤ 64 * l.word;
  steps : l.steps ≡ l.initial.steps + (l.word - l.from / 64);
}
