use Rattle.std.proofs.Common.{arith}
use Rattle.pemb_file.proofs.name_sections.place_width.Goals as goal

pub returns-clause-width : goal.returns-clause-width
returns-clause-width c = omega (arith, c.binary_digits.ensures.count, c.max.ensures)
