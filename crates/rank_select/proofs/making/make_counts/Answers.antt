use Rattle.std.proofs.Common.{◌≡◌, ◌+◌, ◌*◌, ◌/◌, true, length, arith, rules}
use Rattle.bit_words.specs.Bits.{rank}
use Rattle.rank_select.proofs.CountLaws.{rank_block, makes}
use Rattle.rank_select.proofs.making.make_counts.Goals as goal

pub loop-block-preserved : goal.loop-block-preserved
loop-block-preserved c =
    let bits = c.args.bits.now in
    let words : c.div_ceil-words.result ≡ (length bits + 63) / 64 = omega arith in
    let e : 64 * (8 * c.loop-block.block) ≡ 512 * c.loop-block.block = omega arith in
    let m = rank_block bits (c.loop-block.block + 1) c.min.result c.div_ceil-words.result words (omega arith) in
    let s : rank true bits (512 * c.loop-block.block) + c.ones_made-ones.result ≡ rank true bits (64 * c.min.result) = rw e at c.ones_made-ones.ensures in
    record {
      width = search rules;
      items = search (rules, makes);
      ones = omega (arith, m, s, c.loop-block.invariant.ones);
    }
