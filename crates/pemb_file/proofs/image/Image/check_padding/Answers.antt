use Rattle.std.proofs.Common.{◌+◌, drop, refl, arith, ap, sym, ◌∙◌, Some, None}
use Rattle.bit_words.specs.WordView.{words_of}
use Rattle.file_laws.specs.Layout.{counts_in, sections}
use Rattle.file_laws.specs.declared.fault.FileFault.TheVariants as fault
use Rattle.pemb_file.proofs.SectionWalk.{count-is, words-are, total-next}
use Rattle.pemb_file.proofs.PaddingLaws.{padding_rest, pad-next, pad-not, pad-end, padding-is}
use Rattle.pemb_file.proofs.image.Image.check_padding.Goals as goal

pub loop-section-init : goal.loop-section-init
loop-section-init g c =
    let are = c.sections-sections.ensures ∙ ap sections c.args.self.now.counts in
    let w = words-are (counts_in (words_of c.args.self.now.words)) c.sections-sections.result are in
    let s = c.args.self.now.size in
    record { rest = refl; within = omega (arith, w, s); grows = omega arith; cost = omega arith }

pub is_padded-requires : goal.is_padded-requires
is_padded-requires g c =
    let many = count-is (counts_in (words_of c.args.self.now.words)) c.sections-sections.result (c.sections-sections.ensures ∙ ap sections c.args.self.now.counts) in
    let t = total-next c.sections-sections.result c.loop-section.section-index c.section-item.result (omega (arith, many, c.loop-section-test.true)) in
    omega (arith, t, c.loop-section.invariant.within)

pub last_word-requires : goal.last_word-requires
last_word-requires g c =
    let many = count-is (counts_in (words_of c.args.self.now.words)) c.sections-sections.result (c.sections-sections.ensures ∙ ap sections c.args.self.now.counts) in
    let t = total-next c.sections-sections.result c.loop-section.section-index c.section-item.result (omega (arith, many, c.loop-section-test.true)) in
    omega (arith, t, c.loop-section.invariant.within)

pub returns-then-not-is_padded-clause-fault : goal.returns-then-not-is_padded-clause-fault
returns-then-not-is_padded-clause-fault g c =
    let words = words_of c.args.self.now.words in
    let items = c.sections-sections.result in
    let are = c.sections-sections.ensures ∙ ap sections c.args.self.now.counts in
    let many = count-is (counts_in words) items are in
    let n = pad-not words c.loop-section.from items c.loop-section.section-index c.section-item.result (omega (arith, many, c.loop-section-test.true)) (sym c.is_padded.ensures.padded ∙ c.if-not-is_padded.true) in
    padding-is words items c.loop-section.from c.loop-section.section-index _ are c.loop-section.invariant.rest n ∙ ap (λ w. Some (fault.Padding w)) (sym c.last_word.ensures.word)

pub overflow_cast-from : goal.overflow_cast-from
overflow_cast-from g c =
    let many = count-is (counts_in (words_of c.args.self.now.words)) c.sections-sections.result (c.sections-sections.ensures ∙ ap sections c.args.self.now.counts) in
    let t = total-next c.sections-sections.result c.loop-section.section-index c.section-item.result (omega (arith, many, c.loop-section-test.true)) in
    omega (arith, t, c.loop-section.invariant.within, c.words.ensures.words, c.len-words.ensures)

pub overflow_add-from : goal.overflow_add-from
overflow_add-from g c =
    let many = count-is (counts_in (words_of c.args.self.now.words)) c.sections-sections.result (c.sections-sections.ensures ∙ ap sections c.args.self.now.counts) in
    let t = total-next c.sections-sections.result c.loop-section.section-index c.section-item.result (omega (arith, many, c.loop-section-test.true)) in
    omega (arith, t, c.loop-section.invariant.within, c.words.ensures.words, c.len-words.ensures)

pub loop-section-preserved : goal.loop-section-preserved
loop-section-preserved g c =
    let words = words_of c.args.self.now.words in
    let items = c.sections-sections.result in
    let many = count-is (counts_in words) items (c.sections-sections.ensures ∙ ap sections c.args.self.now.counts) in
    let l = c.loop-section-test.true in
    let t = total-next items c.loop-section.section-index c.section-item.result (omega (arith, many, l)) in
    let n = pad-next words c.loop-section.from items c.loop-section.section-index c.section-item.result (omega (arith, many, l)) (sym c.is_padded.ensures.padded ∙ c.if-not-is_padded.false) in
    record {
      rest = ap (λ w. padding_rest words (c.loop-section.from + w) (drop (c.loop-section.section-index + 1) items)) c.words.ensures.words ∙ sym n ∙ c.loop-section.invariant.rest;
      within = omega (arith, t, c.words.ensures.words, c.loop-section.invariant.within);
      grows = omega arith;
      cost = omega (arith, c.is_padded.ensures.cost, c.loop-section.invariant.cost);
    }

pub returns-clause-fault : goal.returns-clause-fault
returns-clause-fault g c =
    let words = words_of c.args.self.now.words in
    let items = c.sections-sections.result in
    let are = c.sections-sections.ensures ∙ ap sections c.args.self.now.counts in
    let many = count-is (counts_in words) items are in
    let e = pad-end words c.loop-section.from items c.loop-section.section-index (omega (arith, many, c.loop-section.auto.section-index-end)) (omega (arith, many, c.loop-section-test.false)) in
    padding-is words items c.loop-section.from c.loop-section.section-index None are c.loop-section.invariant.rest e
