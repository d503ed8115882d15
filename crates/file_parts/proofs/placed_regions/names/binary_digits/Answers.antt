use Rattle.std.proofs.Common.{arith}
use Rattle.std.proofs.lemmas.Nat.{leading_length}
use Rattle.bit_words.proofs.DigitLaws.{digits-pow}
use Rattle.id_names.proofs.DigitBounds.{digits-is}
use Rattle.file_parts.proofs.placed_regions.names.binary_digits.Goals as goal

pub returns-clause-count : goal.returns-clause-count
returns-clause-count c =
    let m = leading_length 64 c.args.count (omega arith) in
    omega (arith, m.1, digits-is c.args.count m.0 m.2 m.3)

pub returns-clause-few : goal.returns-clause-few
returns-clause-few c =
    let m = leading_length 64 c.args.count (omega arith) in
    omega (arith, m.1, digits-is c.args.count m.0 m.2 m.3, digits-pow c.args.count 25 (omega arith))
