use Rattle.bit_words.proofs.ByteTables.{places_by_bits}
use Rattle.bit_words.proofs.tables.places_in_bytes_are_right.Goals as goal

pub returns : goal.returns
returns c = places_by_bits
