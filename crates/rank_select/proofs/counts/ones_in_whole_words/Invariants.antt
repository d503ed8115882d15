use Rattle.std.proofs.Common.{◌≡◌, ◌+◌, ◌*◌, ◌-◌, true}
use Rattle.bit_words.specs.Bits.{rank}
use Rattle.bit_words.specs.BitView.{bits_of}
use Rattle.rank_select.proofs.counts.ones_in_whole_words.Given as goal

abbrev pub invariant-loop-word : goal.invariant-loop-word
invariant-loop-word g l = record {
  ones : rank true (bits_of l.bits) (64 * l.from) + l.ones ≡ rank true (bits_of l.bits) (64 * l.word);
  steps : l.steps ≡ l.initial.steps + (l.word - l.from);
}
