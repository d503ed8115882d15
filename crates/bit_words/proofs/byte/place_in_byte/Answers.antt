use Rattle.std.proofs.Common.{◌<◌, ◌+◌, ◌*◌, true, arith}
use Rattle.bit_words.specs.Bits.{word_bits}
use Rattle.bit_words.proofs.Ranks.{rank-le}
use Rattle.bit_words.proofs.ByteLaws.{place_found}
use Rattle.bit_words.proofs.ByteTables.{place-read}
use Rattle.bit_words.proofs.byte.place_in_byte.Goals as goal

pub bounds-byte : goal.bounds-byte
bounds-byte c = omega (arith, rank-le true (word_bits c.args.byte) 8, c.requires)

pub returns : goal.returns
returns c =
    let h : 8 * c.args.byte + c.args.j < 2048 = omega (arith, rank-le true (word_bits c.args.byte) 8, c.requires) in
    rw (c.from.ensures, place-read (8 * c.args.byte + c.args.j) 0 h) (place_found c.args.byte c.args.j c.requires)
