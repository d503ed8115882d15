use Rattle.std.proofs.Common.{arith}
use Rattle.bit_words.proofs.ByteLaws.{filled_low, filled_high}
use Rattle.bit_words.proofs.in_word.filled_from.Goals as goal

pub returns-clause-low : goal.returns-clause-low
returns-clause-low c i h = rw c.low_bits.ensures (filled_low c.args.word c.args.from i (omega arith) c.requires h)

pub returns-clause-high : goal.returns-clause-high
returns-clause-high c i h l = rw c.low_bits.ensures (filled_high c.args.word c.args.from i h l)
