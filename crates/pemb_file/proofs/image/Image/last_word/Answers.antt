use Rattle.std.proofs.Common.{arith}
use Rattle.pemb_file.specs.Section.{seen}
use Rattle.pemb_file.proofs.PaddingLaws.{last-word}
use Rattle.pemb_file.proofs.image.Image.last_word.Goals as goal

pub overflow_cast-result : goal.overflow_cast-result
overflow_cast-result c = let l = last-word (seen c.args.section) in omega (arith, l, c.bits.ensures.bits, c.requires, c.len-words.ensures)

pub overflow_add-result : goal.overflow_add-result
overflow_add-result c = let l = last-word (seen c.args.section) in omega (arith, l, c.bits.ensures.bits, c.requires, c.len-words.ensures)

pub returns-clause-within : goal.returns-clause-within
returns-clause-within c = let l = last-word (seen c.args.section) in omega (arith, l, c.bits.ensures.bits, c.requires)
