use Rattle.std.proofs.Common.{◌≡◌, ◌-◌, true, arith}
use Rattle.bit_words.specs.Bits.{rank, word_bits}
use Rattle.bit_words.proofs.Ranks.{rank-le, rank-le-rank}
use Rattle.min_max_tree.proofs.Fronts.{too_few_zeros}
use Rattle.min_max_tree.proofs.scan.first_fall.Goals as goal

pub overflow_sub-ones : goal.overflow_sub-ones
overflow_sub-ones c = omega (arith, rank-le-rank true (word_bits c.args.word) c.args.from c.args.to c.requires.order, c.ones_below.ensures, c.ones_below-2.ensures)

pub overflow_add-drop : goal.overflow_add-drop
overflow_add-drop c = omega (arith, rank-le true (word_bits c.args.word) c.args.to, c.ones_below.ensures)

pub returns-then-to-from : goal.returns-then-to-from
returns-then-to-from c =
    let ones : c.ones_below.result - c.ones_below-2.result ≡ rank true (word_bits c.args.word) c.args.to - rank true (word_bits c.args.word) c.args.from = omega (arith, c.ones_below.ensures, c.ones_below-2.ensures) in
    too_few_zeros c.args.word c.args.from c.args.to (c.ones_below.result - c.ones_below-2.result) c.args.drop c.requires.within ones c.if-to-from.true
