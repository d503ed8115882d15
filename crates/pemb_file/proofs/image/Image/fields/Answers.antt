use Rattle.std.proofs.Common.{arith, ap, ◌∙◌}
use Rattle.bit_words.specs.Bits.{fields_in}
use Rattle.bit_words.specs.WordView.{words_of}
use Rattle.file_laws.specs.Layout.{Section, counts_in, section_words, part, fields_at}
use Rattle.pemb_file.specs.Section.{seen}
use Rattle.pemb_file.proofs.KindLaws.{fields-some, words-hold}
use Rattle.pemb_file.proofs.image.Image.fields.Goals as goal

pub new-requires-clause-some : goal.new-requires-clause-some
new-requires-clause-some c =
    let s = fields-some (counts_in (words_of c.args.self.now.words)) c.args.number c.requires in
    let e = ap (λ (s : Section). s.width) c.section-section.ensures.section in
    omega (arith, s, e)

pub new-requires-clause-within : goal.new-requires-clause-within
new-requires-clause-within c =
    let w = words-hold (seen c.section-section.result) in
    let e = ap section_words c.section-section.ensures.section in
    omega (arith, w, e, c.part.ensures.len)

pub returns-clause-fields : goal.returns-clause-fields
unfolding fields_at
returns-clause-fields c =
    let p = part (words_of c.args.self.now.words) c.args.number in
    let s = c.section-section.result in
    c.new.ensures.fields ∙ ap (λ ws. fields_in ws s.count s.width) c.part.ensures.words ∙ ap (λ (s : Section). fields_in p s.count s.width) c.section-section.ensures.section

pub returns-clause-len : goal.returns-clause-len
returns-clause-len c = c.new.ensures.count ∙ ap (λ (s : Section). s.count) c.section-section.ensures.section

pub returns-clause-width : goal.returns-clause-width
returns-clause-width c = c.new.ensures.width ∙ ap (λ (s : Section). s.width) c.section-section.ensures.section
