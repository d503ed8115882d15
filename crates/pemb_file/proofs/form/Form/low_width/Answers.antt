use Rattle.std.proofs.Common.{arith}
use Rattle.pemb_file.proofs.form.Form.low_width.Goals as goal

pub returns-clause-width : goal.returns-clause-width
returns-clause-width c = omega (arith, c.id_bits.ensures, c.binary_digits.ensures.count, c.saturating_sub.ensures, c.max.ensures)
