use Rattle.bit_words.proofs.ByteLaws.{bit_up_to}
use Rattle.bit_words.proofs.byte.byte_up_to.Goals as goal

pub returns : goal.returns
returns c i h l = bit_up_to c.args.word c.args.at i c.requires.within h l
