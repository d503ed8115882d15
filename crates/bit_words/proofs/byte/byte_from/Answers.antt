use Rattle.bit_words.proofs.ByteLaws.{bit_from}
use Rattle.bit_words.proofs.byte.byte_from.Goals as goal

pub returns : goal.returns
returns c i h l = bit_from c.args.word c.args.at i h
