use Rattle.std.proofs.Common.{true, arith, ◌<◌, ◌≤◌}
use Rattle.bit_words.specs.Bits.{rank, word_bits}
use Rattle.bit_words.proofs.BitLists.{length-word_bits}
use Rattle.rank_select.specs.RankView.{counted}
use Rattle.rank_select.proofs.CountLaws.{found, not_here, block_end}
use Rattle.rank_select.proofs.view.RankView.select_in.Goals as goal

pub returns-then-left-ones-clause-selected : goal.returns-then-left-ones-clause-selected
returns-then-left-ones-clause-selected g c =
    let bits = counted c.args.self.now in
    let chunk = c.kind_chunk-chunk.result in
    let e = c.place_below.ensures in
    let within : c.place_below.result < 64 = rw length-word_bits at e.0 in
    found c.args.kind bits c.loop-word.word chunk c.kind_chunk-chunk.ensures.chunk c.args.j c.loop-word.left c.loop-word.invariant.below c.requires.some c.place_below.result within e.1 e.2

pub loop-word-preserved : goal.loop-word-preserved
loop-word-preserved g c =
    let bits = counted c.args.self.now in
    let chunk = c.kind_chunk-chunk.result in
    let all : rank true (word_bits chunk) 64 ≤ c.loop-word.left = omega (arith, c.ones_below-ones.ensures, c.if-left-ones.false) in
    record {
      below = rw c.ones_below-ones.ensures (not_here c.args.kind bits c.loop-word.word chunk c.kind_chunk-chunk.ensures.chunk c.args.j c.loop-word.left c.loop-word.invariant.below c.requires.some all);
      steps = omega arith;
      last = omega arith;
    }

pub unreachable-requires : goal.unreachable-requires
unreachable-requires g c =
    let bits = counted c.args.self.now in
    let e = block_end c.args.kind bits c.args.block c.loop-word.word (omega arith) c.loop-word.invariant.last in
    omega arith
