use Rattle.std.proofs.Common.{◌≡◌, ◌+◌, sym, ◌∙◌, arith}
use Rattle.code_laws.specs.Code.{end_of}
use Rattle.code_laws.proofs.Steps.{after_next, after_last}
use Rattle.turan_code.specs.TuranView.{code_of_view}
use Rattle.turan_code.proofs.Views.{few_components, stands}
use Rattle.turan_code.proofs.view.TuranView.after.Goals as goal

pub overflow_add-component : goal.overflow_add-component
overflow_add-component g c =
    let v = c.args.self.now in
    let few = few_components (code_of_view v) v.sound in
    omega (arith, few, v.few, c.component-component.ensures.within)

pub returns-then-p-end-clause-after : goal.returns-then-p-end-clause-after
returns-then-p-end-clause-after g c =
    let v = c.args.self.now in
    let m = c.component-component.result in
    let at_end : c.args.p + 1 ≡ end_of (code_of_view v) m = omega (arith, c.start-end.ensures.start) in
    c.start.ensures.start ∙ sym (after_last (code_of_view v) c.args.p m (sym c.component-component.ensures.component) at_end)

pub returns-then-p-end-clause-within : goal.returns-then-p-end-clause-within
returns-then-p-end-clause-within g c =
    let v = c.args.self.now in
    let s = stands (code_of_view v) v.sound c.args.p c.component-component.result c.requires c.component-component.ensures.component in
    omega (arith, s.0, c.requires, c.start.ensures.start)

pub returns-else-p-end-clause-after : goal.returns-else-p-end-clause-after
returns-else-p-end-clause-after g c =
    let v = c.args.self.now in
    let m = c.component-component.result in
    sym (after_next (code_of_view v) c.args.p m (sym c.component-component.ensures.component) (λ z. omega (arith, z, c.start-end.ensures.start)))

pub returns-else-p-end-clause-within : goal.returns-else-p-end-clause-within
returns-else-p-end-clause-within g c =
    let v = c.args.self.now in
    let s = stands (code_of_view v) v.sound c.args.p c.component-component.result c.requires c.component-component.ensures.component in
    omega (arith, s.1, s.2, c.start-end.ensures.start)
