use Rattle.std.proofs.Common.{◌≡◌, ◌-◌, true, arith}
use Rattle.bit_words.specs.Bits.{rank, word_bits}
use Rattle.bit_words.proofs.Ranks.{rank-le-rank}
use Rattle.min_max_tree.proofs.Fronts.{too_few_ones}
use Rattle.min_max_tree.proofs.scan.last_rise.Goals as goal

pub overflow_sub-ones_below : goal.overflow_sub-ones_below
overflow_sub-ones_below c = omega (arith, rank-le-rank true (word_bits c.args.word) c.args.from c.args.to c.requires.order, c.ones_below.ensures, c.ones_below-2.ensures)

pub returns-then-ones_below-drop : goal.returns-then-ones_below-drop
returns-then-ones_below-drop c =
    let ones : c.ones_below.result - c.ones_below-2.result ≡ rank true (word_bits c.args.word) c.args.to - rank true (word_bits c.args.word) c.args.from = omega (arith, c.ones_below.ensures, c.ones_below-2.ensures) in
    too_few_ones c.args.word c.args.from c.args.to (c.ones_below.result - c.ones_below-2.result) c.args.drop c.requires.within ones c.if-ones_below-drop.true
