use Rattle.std.proofs.Common.{arith, ap, ◌∙◌}
use Rattle.bit_words.specs.WordView.{words_of}
use Rattle.file_laws.specs.Layout.{Section, counts_in, section}
use Rattle.pemb_file.proofs.KindLaws.{small}
use Rattle.pemb_file.proofs.image.Image.section.Goals as goal

pub returns-clause-section : goal.returns-clause-section
returns-clause-section c = c.section.ensures ∙ ap (λ h. section h c.args.number) c.args.self.now.counts

pub returns-clause-few : goal.returns-clause-few
returns-clause-few c =
    let s = small (counts_in (words_of c.args.self.now.words)) c.args.number c.args.self.now.few in
    let e = ap (λ (s : Section). s.count) (c.section.ensures ∙ ap (λ h. section h c.args.number) c.args.self.now.counts) in
    omega (arith, e, s.few)

pub returns-clause-narrow : goal.returns-clause-narrow
returns-clause-narrow c =
    let s = small (counts_in (words_of c.args.self.now.words)) c.args.number c.args.self.now.few in
    let e = ap (λ (s : Section). s.width) (c.section.ensures ∙ ap (λ h. section h c.args.number) c.args.self.now.counts) in
    omega (arith, e, s.narrow)
