use Rattle.std.specs.Prelude.{pos, ◌+ℤ◌}
use Rattle.std.proofs.Common.{◌≡◌, ◌*◌}
use Rattle.bit_words.specs.Bits.{excess, word_bits}
use Rattle.bit_words.specs.Bytes.{least_front}
use Rattle.bit_words.proofs.in_word.deepest_fall.Given as goal

abbrev pub invariant-loop-k : goal.invariant-loop-k
invariant-loop-k l = record {
  excess : pos l.excess ≡ excess (word_bits l.filled) (8 * l.k) +ℤ pos 64;
  least : pos l.least ≡ least_front (word_bits l.filled) (8 * l.k) +ℤ pos 64;
}
