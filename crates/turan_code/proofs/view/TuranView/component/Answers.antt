use Rattle.std.proofs.Common.{◌≤◌, ◌+◌, length, arith}
use Rattle.bit_words.proofs.DigitLaws.{digits-halved}
use Rattle.code_laws.specs.Code.{component_count}
use Rattle.turan_code.specs.TuranView.{code_of_view}
use Rattle.turan_code.proofs.Views.{few_components, component_there, component_found}
use Rattle.turan_code.proofs.view.TuranView.component.Goals as goal
use Rattle.turan_code.proofs.view.TuranView.component.Goals.{else-start-p-via-then-start-p+else-p-start, else-start-p-via-else-start-p}

pub overflow_sub-components : goal.overflow_sub-components
overflow_sub-components g c =
    let v = c.args.self.now in
    let there = component_there (code_of_view v) v.sound c.args.p c.requires in
    omega (arith, there, c.components.ensures)

pub start-requires-then-start-p : goal.start-requires-then-start-p
start-requires-then-start-p g c =
    let v = c.args.self.now in
    let there = component_there (code_of_view v) v.sound c.args.p c.requires in
    omega (arith, there, c.components.ensures, c.min-near.ensures)

pub returns-then-p-start-clause-component : goal.returns-then-p-start-clause-component
returns-then-p-start-clause-component g c =
    let v = c.args.self.now in
    let code = code_of_view v in
    let there = component_there code v.sound c.args.p c.requires in
    component_found code v.sound c.args.p c.min-near.result (c.min-near.result + 1) (omega arith) (omega (arith, there, c.components.ensures, c.min-near.ensures)) (omega (arith, c.if-start-p.true, c.start.ensures.start))
    (omega (arith, c.if-p-start.true, c.start-then-start-p.ensures.start))

pub returns-then-p-start-clause-cost : goal.returns-then-p-start-clause-cost
returns-then-p-start-clause-cost g c =
    let code = code_of_view c.args.self.now in
    let more = digits-halved 0 (length code.a + 2) (omega arith) (omega arith) in
    omega (arith, c.start.ensures.one_step, c.start-then-start-p.ensures.one_step, more)

pub returns-clause-cost : goal.returns-clause-cost
returns-clause-cost g c =
    let v = c.args.self.now in
    let code = code_of_view v in
    let few = few_components code v.sound in
    let more = digits-halved (component_count code) (length code.a + 2) (omega arith) (omega (arith, few)) in
    let read : c.else-start-p.steps ≤ c.args.steps.now + 2 = elim c.else-start-p.branch [
      | else-start-p-via-then-start-p+else-p-start w ↦ omega (arith, w.steps-is, c.start.ensures.one_step, w.start-then-start-p.ensures.one_step)
      | else-start-p-via-else-start-p w ↦ omega (arith, w.steps-is, c.start.ensures.one_step)
    ] in
    omega (arith, read, c.component_by_halving.ensures.cost, more)
