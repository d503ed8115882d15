use Rattle.std.specs.Prelude.{count_ones}
use Rattle.std.proofs.Common.{ap, ◌∙◌}
use Rattle.bit_words.proofs.ByteLaws.{ones_low}
use Rattle.bit_words.proofs.in_word.ones_below.Goals as goal

pub returns : goal.returns
returns c = ap count_ones c.low_bits.ensures ∙ ones_low c.args.word c.args.i c.requires
