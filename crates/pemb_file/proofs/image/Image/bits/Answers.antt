use Rattle.std.proofs.Common.{arith, ap, ◌∙◌}
use Rattle.bit_words.specs.Bits.{bits_in}
use Rattle.bit_words.specs.WordView.{words_of}
use Rattle.file_laws.specs.Layout.{Section, counts_in, section, part, bits_at}
use Rattle.pemb_file.proofs.KindLaws.{bits-width, words-hold-by}
use Rattle.pemb_file.proofs.image.Image.bits.Goals as goal

pub new-requires : goal.new-requires
new-requires c =
    let k = counts_in (words_of c.args.self.now.words) in
    let w = words-hold-by (section k c.args.number) 1 (bits-width k c.args.number c.requires) in
    let e = ap (λ (s : Section). s.count) c.section.ensures.section in
    omega (arith, w, e, c.part.ensures.len)

pub returns-clause-bits : goal.returns-clause-bits
unfolding bits_at
returns-clause-bits c = c.new.ensures.bits ∙ ap (λ ws. bits_in ws c.section.result.count) c.part.ensures.words ∙ ap (λ (s : Section). bits_in (part (words_of c.args.self.now.words) c.args.number) s.count) c.section.ensures.section

pub returns-clause-len : goal.returns-clause-len
returns-clause-len c = c.new.ensures.len ∙ ap (λ (s : Section). s.count) c.section.ensures.section
