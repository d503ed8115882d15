use Rattle.std.proofs.Common.{◌≡◌, ◌<◌, ◌+◌, ◌*◌, ℕ, true, min, get_or}
use Rattle.bit_words.specs.Bits.{rank}
use Rattle.bit_words.specs.BitView.{bits_of}
use Rattle.bit_words.specs.PackedView.{fields_of}
use Rattle.rank_select.specs.Counts.{counts_of}
use Rattle.rank_select.proofs.checking.check_counts.Given as goal

abbrev pub invariant-loop-at : goal.invariant-loop-at
invariant-loop-at g l = record {
  ones : l.ones ≡ rank true (bits_of l.bits) (64 * l.word);
  word : l.word ≡ min (8 * l.at) l.words;
  steps : l.steps ≡ l.initial.steps + l.at + l.word;
  same : (k : ℕ) → k < l.at → get_or (fields_of l.counts) k 0 ≡ get_or (counts_of (bits_of l.bits)) k 0;
}
