use Rattle.std.proofs.Common.{arith}
use Rattle.pemb_file.specs.Section.{seen}
use Rattle.pemb_file.proofs.PaddingLaws.{last-bits}
use Rattle.pemb_file.proofs.image.Image.is_padded.Goals as goal

pub word-requires : goal.word-requires
word-requires g c = let l = last-bits (seen c.args.section) (omega (arith, c.if-left-eq0.false, c.bits.ensures.bits)) in omega (arith, l, c.last_word.ensures.word, c.requires)
