use Rattle.std.proofs.Common.{arith, sym, ◌∙◌}
use Rattle.pemb_file.specs.Header.{counts_of_header}
use Rattle.pemb_file.proofs.SectionWalk.{count-is, section-is, found-here, found-next, found-end}
use Rattle.pemb_file.proofs.layout.Header.section.Goals as goal

pub returns-then-section-number : goal.returns-then-section-number
returns-then-section-number c =
    let many = count-is (counts_of_header c.args.self) c.sections-sections.result c.sections-sections.ensures in
    let items = c.sections-sections.result in
    let n = c.args.number in
    sym (section-is (counts_of_header c.args.self) items c.sections-sections.ensures n ∙ sym c.loop-section.invariant.rest ∙ found-here items c.loop-section.section-index c.section-item.result (omega (arith, many, c.loop-section-test.true)) n c.if-section-number.true)

pub loop-section-preserved : goal.loop-section-preserved
loop-section-preserved c =
    let many = count-is (counts_of_header c.args.self) c.sections-sections.result c.sections-sections.ensures in
    let items = c.sections-sections.result in
    let n = c.args.number in
    record { rest = sym (found-next items c.loop-section.section-index c.section-item.result (omega (arith, many, c.loop-section-test.true)) n c.if-section-number.false) ∙ c.loop-section.invariant.rest }

pub returns : goal.returns
returns c =
    let many = count-is (counts_of_header c.args.self) c.sections-sections.result c.sections-sections.ensures in
    let items = c.sections-sections.result in
    let n = c.args.number in
    sym (section-is (counts_of_header c.args.self) items c.sections-sections.ensures n ∙ sym c.loop-section.invariant.rest ∙ found-end items c.loop-section.section-index n (omega (arith, many, c.loop-section.auto.section-index-end)) (omega (arith, many, c.loop-section-test.false)))
