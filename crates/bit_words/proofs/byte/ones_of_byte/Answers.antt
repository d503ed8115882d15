use Rattle.std.proofs.Common.{arith}
use Rattle.bit_words.proofs.ByteLaws.{ones_byte}
use Rattle.bit_words.proofs.byte.ones_of_byte.Goals as goal

pub returns : goal.returns
returns c = ones_byte c.args.byte (omega arith)
