use Rattle.std.proofs.Common.{arith, ap}
use Rattle.bit_words.specs.WordView.{words_of}
use Rattle.file_laws.specs.Layout.{counts_in, section_from}
use Rattle.file_laws.proofs.Following.{section_within}
use Rattle.pemb_file.proofs.image.Image.first_word.Goals as goal

pub overflow_cast-result : goal.overflow_cast-result
overflow_cast-result c =
    let e = ap (λ h. section_from h c.args.number) c.args.self.now.counts in
    let w = section_within (counts_in (words_of c.args.self.now.words)) c.args.number in
    let s = c.args.self.now.size in
    omega (arith, e, w, s, c.first_word.ensures.from, c.len-words.ensures)

pub returns-clause-within : goal.returns-clause-within
returns-clause-within c =
    let e = ap (λ h. section_from h c.args.number) c.args.self.now.counts in
    let w = section_within (counts_in (words_of c.args.self.now.words)) c.args.number in
    let s = c.args.self.now.size in
    omega (arith, e, w, s, c.first_word.ensures.from)
