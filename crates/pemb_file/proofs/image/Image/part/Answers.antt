use Rattle.std.proofs.Common.{arith, ap, ◌∙◌}
use Rattle.bit_words.specs.WordView.{words_of}
use Rattle.file_laws.specs.Layout.{section_words}
use Rattle.pemb_file.proofs.KindLaws.{part-range}
use Rattle.pemb_file.proofs.image.Image.part.Goals as goal

pub part-requires : goal.part-requires
part-requires c = let e = ap section_words c.section.ensures.section in omega (arith, e, c.words.ensures.words, c.first_word-from.ensures.within)

pub returns-clause-words : goal.returns-clause-words
returns-clause-words c =
    c.part.ensures.words ∙ part-range (words_of c.args.self.now.words) c.args.number _ _ c.first_word-from.ensures.from (c.words.ensures.words ∙ ap section_words c.section.ensures.section)

pub returns-clause-len : goal.returns-clause-len
returns-clause-len c = let e = ap section_words c.section.ensures.section in omega (arith, e, c.words.ensures.words, c.part.ensures.len)
