use Rattle.bit_words.proofs.ByteTables.{falls_by_bits}
use Rattle.bit_words.proofs.tables.first_falls_are_right.Goals as goal

pub returns : goal.returns
returns c = falls_by_bits
