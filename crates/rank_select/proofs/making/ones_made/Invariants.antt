use Rattle.std.proofs.Common.{◌≡◌, ◌≤◌, ◌+◌, ◌*◌, true}
use Rattle.bit_words.specs.Bits.{rank}
use Rattle.rank_select.proofs.making.ones_made.Given as goal

abbrev pub invariant-loop-word : goal.invariant-loop-word
invariant-loop-word l = record {
  ones : rank true l.bits (64 * l.from) + l.ones ≡ rank true l.bits (64 * l.word);
  few : l.ones ≤ 64 * l.word;
}
