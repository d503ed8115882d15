use Rattle.bit_words.proofs.ByteTables.{excesses_by_bits}
use Rattle.bit_words.proofs.tables.byte_excesses_are_right.Goals as goal

pub returns : goal.returns
returns c = excesses_by_bits
