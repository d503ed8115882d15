use Rattle.std.proofs.Common.{arith}
use Rattle.std.proofs.lemmas.Nat.{leading_length}
use Rattle.id_names.proofs.DigitBounds.{digits-is}
use Rattle.pemb_file.proofs.form.binary_digits.Goals as goal

pub returns-clause-count : goal.returns-clause-count
returns-clause-count c =
    let m = leading_length 128 c.args.number (omega arith) in
    omega (arith, m.1, digits-is c.args.number m.0 m.2 m.3)
