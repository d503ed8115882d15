use Rattle.std.proofs.Common.{arith}
use Rattle.std.proofs.lemmas.Int.{ints}
use Rattle.bit_words.proofs.ByteLaws.{byte_least-bounds}
use Rattle.bit_words.proofs.ByteTables.{least-look}
use Rattle.bit_words.proofs.byte.least_entry.Goals as goal

pub returns-clause-entry : goal.returns-clause-entry
returns-clause-entry c = least-look c.args.byte (omega arith)

pub returns-clause-low : goal.returns-clause-low
returns-clause-low c =
    let b = byte_least-bounds c.args.byte in
    omega (arith, ints, least-look c.args.byte (omega arith), b.0)

pub returns-clause-high : goal.returns-clause-high
returns-clause-high c =
    let b = byte_least-bounds c.args.byte in
    omega (arith, ints, least-look c.args.byte (omega arith), b.1)
