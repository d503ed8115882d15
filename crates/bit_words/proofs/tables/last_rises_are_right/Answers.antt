use Rattle.bit_words.proofs.ByteTables.{rises_by_bits}
use Rattle.bit_words.proofs.tables.last_rises_are_right.Goals as goal

pub returns : goal.returns
returns c = rises_by_bits
