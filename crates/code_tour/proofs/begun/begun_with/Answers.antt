use Rattle.std.proofs.Common.{◌+◌, ap, sym, ◌∙◌, arith}
use Rattle.turan_code.specs.TuranView.{code_of_parts}
use Rattle.turan_code.proofs.Views.{few_components}
use Rattle.turan_code.proofs.Numbered.{begins, goes_on}
use Rattle.code_tour.proofs.Opened.{next_start_within}
use Rattle.code_tour.proofs.begun.begun_with.Goals as goal

pub returns-then-begun-p-clause-begun : goal.returns-then-begun-p-clause-begun
returns-then-begun-p-clause-begun g c =
    let b = c.requires.begun in
    record {
      count = (goes_on (code_of_parts c.args.parts) c.requires.short.sound c.args.p c.args.begun.count c.requires.within b.count (λ e. c.if-begun-p.true (b.next ∙ e))).0;
      next = b.next;
    }

pub returns-then-begun-p-clause-component : goal.returns-then-begun-p-clause-component
returns-then-begun-p-clause-component g c =
    let b = c.requires.begun in
    sym (goes_on (code_of_parts c.args.parts) c.requires.short.sound c.args.p c.args.begun.count c.requires.within b.count (λ e. c.if-begun-p.true (b.next ∙ e))).1

pub overflow_add-count : goal.overflow_add-count
overflow_add-count g c =
    let b = c.requires.begun in
    let below = next_start_within (code_of_parts c.args.parts) c.requires.short.sound c.args.p c.args.begun.count c.requires.within b.count (sym b.next ∙ c.if-begun-p.false) in
    let few = few_components (code_of_parts c.args.parts) c.requires.short.sound in
    omega (arith, below, few, c.requires.short.few)

pub field-requires : goal.field-requires
field-requires g c =
    let b = c.requires.begun in
    next_start_within (code_of_parts c.args.parts) c.requires.short.sound c.args.p c.args.begun.count c.requires.within b.count (sym b.next ∙ c.if-begun-p.false)

pub returns-clause-begun : goal.returns-clause-begun
returns-clause-begun g c =
    let b = c.requires.begun in
    record {
      count = (begins (code_of_parts c.args.parts) c.requires.short.sound c.args.p c.args.begun.count c.requires.within b.count (sym b.next ∙ c.if-begun-p.false)).0;
      next = c.field.ensures.field;
    }

pub returns-clause-component : goal.returns-clause-component
returns-clause-component g c =
    let b = c.requires.begun in
    ap (λ n. n + 1) (sym (begins (code_of_parts c.args.parts) c.requires.short.sound c.args.p c.args.begun.count c.requires.within b.count (sym b.next ∙ c.if-begun-p.false)).1)
