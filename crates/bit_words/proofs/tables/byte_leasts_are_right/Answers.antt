use Rattle.bit_words.proofs.ByteTables.{leasts_by_bits}
use Rattle.bit_words.proofs.tables.byte_leasts_are_right.Goals as goal

pub returns : goal.returns
returns c = leasts_by_bits
