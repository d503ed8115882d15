use Rattle.std.proofs.Common.{◌≡◌, ◌*◌, true}
use Rattle.bit_words.specs.Bits.{rank}
use Rattle.rank_select.proofs.CountLaws.{counts_to}
use Rattle.rank_select.proofs.making.make_counts.Given as goal

abbrev pub invariant-loop-block : goal.invariant-loop-block
invariant-loop-block l = record {
  width : l.counts.width ≡ 32;
  items : l.counts.items ≡ counts_to l.bits l.block;
  ones : l.ones ≡ rank true l.bits (512 * l.block);
}
