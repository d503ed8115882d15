use Rattle.std.proofs.Common.{arith}
use Rattle.bit_words.proofs.ByteTables.{rise-read}
use Rattle.bit_words.proofs.byte.rise_entry.Goals as goal

pub returns : goal.returns
returns c = rw c.from.ensures (rise-read c.args.byte c.args.need (omega arith) c.requires.some c.requires.few 0)
