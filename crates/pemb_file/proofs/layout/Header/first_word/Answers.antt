use Rattle.std.proofs.Common.{arith}
use Rattle.pemb_file.specs.Header.{counts_of_header}
use Rattle.pemb_file.proofs.SectionWalk.{count-is, from-is, before-here, before-next, before-end}
use Rattle.pemb_file.proofs.layout.Header.first_word.Goals as goal

pub returns-then-section-number-clause-from : goal.returns-then-section-number-clause-from
returns-then-section-number-clause-from c =
    let many = count-is (counts_of_header c.args.self) c.sections-sections.result c.sections-sections.ensures in
    let w = from-is (counts_of_header c.args.self) c.sections-sections.result c.sections-sections.ensures c.args.number in
    let e = before-here c.sections-sections.result c.loop-section.section-index c.section-item.result (omega (arith, many, c.loop-section-test.true)) c.args.number c.if-section-number.true in
    omega (arith, w, e, c.loop-section.invariant.rest)

pub loop-section-preserved : goal.loop-section-preserved
loop-section-preserved c =
    let many = count-is (counts_of_header c.args.self) c.sections-sections.result c.sections-sections.ensures in
    let t = before-next c.sections-sections.result c.loop-section.section-index c.section-item.result (omega (arith, many, c.loop-section-test.true)) c.args.number c.if-section-number.false in
    record { rest = omega (arith, t, c.words-from.ensures.words, c.loop-section.invariant.rest); few = omega (arith, c.words-from.ensures.few, c.loop-section.invariant.few) }

pub returns-clause-from : goal.returns-clause-from
returns-clause-from c =
    let many = count-is (counts_of_header c.args.self) c.sections-sections.result c.sections-sections.ensures in
    let w = from-is (counts_of_header c.args.self) c.sections-sections.result c.sections-sections.ensures c.args.number in
    let e = before-end c.sections-sections.result c.loop-section.section-index c.args.number (omega (arith, many, c.loop-section.auto.section-index-end)) (omega (arith, many, c.loop-section-test.false)) in
    omega (arith, w, e, c.loop-section.invariant.rest)
