use Rattle.std.proofs.Common.{arith, true}
use Rattle.bit_words.specs.BitView.{bits_of}
use Rattle.bit_words.specs.Bits.{word_bits}
use Rattle.bit_words.proofs.Ranks.{rank-le}
use Rattle.min_max_tree.proofs.Rises.{ones_word}
use Rattle.min_max_tree.proofs.scan.ones_between.Goals as goal

pub loop-word-preserved : goal.loop-word-preserved
loop-word-preserved g c =
    let i = c.loop-word.invariant in
    let l = rank-le true (word_bits c.chunk-chunk.result) c.min.result in
    record {
      ones = rw c.ones_below.ensures (ones_word (bits_of c.args.bits.now) c.args.from c.loop-word.word c.args.to c.loop-word.ones c.chunk-chunk.result c.min.result c.chunk-chunk.ensures.bits c.requires.within (omega arith) c.min.ensures i.ones);
      few = omega arith;
      steps = omega arith;
    }
