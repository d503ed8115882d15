use Rattle.std.proofs.Common.{◌≡◌, ◌-◌, ap, sym, ◌∙◌, arith}
use Rattle.code_laws.specs.Code.{start_of}
use Rattle.code_laws.proofs.Backs.{before_first, before_other}
use Rattle.turan_code.specs.TuranView.{code_of_view}
use Rattle.turan_code.proofs.Views.{few_components, stands}
use Rattle.turan_code.proofs.view.TuranView.before.Goals as goal

pub overflow_add-component : goal.overflow_add-component
overflow_add-component g c =
    let v = c.args.self.now in
    let few = few_components (code_of_view v) v.sound in
    omega (arith, few, v.few, c.component-component.ensures.within)

pub overflow_sub-result : goal.overflow_sub-result
overflow_sub-result g c =
    let v = c.args.self.now in
    let s = stands (code_of_view v) v.sound c.args.p c.component-component.result c.requires c.component-component.ensures.component in
    omega (arith, s.1, c.start.ensures.start)

pub overflow_sub-result-else-p-start : goal.overflow_sub-result-else-p-start
overflow_sub-result-else-p-start g c =
    let v = c.args.self.now in
    let s = stands (code_of_view v) v.sound c.args.p c.component-component.result c.requires c.component-component.ensures.component in
    omega (arith, s.0, c.start-start.ensures.start)

pub returns-then-p-start-clause-before : goal.returns-then-p-start-clause-before
returns-then-p-start-clause-before g c =
    let v = c.args.self.now in
    let m = c.component-component.result in
    let at_start : c.args.p ≡ start_of (code_of_view v) m = omega (arith, c.start-start.ensures.start) in
    ap (λ x. x - 1) c.start.ensures.start ∙ sym (before_first (code_of_view v) c.args.p m (sym c.component-component.ensures.component) at_start)

pub returns-then-p-start-clause-within : goal.returns-then-p-start-clause-within
returns-then-p-start-clause-within g c =
    let v = c.args.self.now in
    let s = stands (code_of_view v) v.sound c.args.p c.component-component.result c.requires c.component-component.ensures.component in
    omega (arith, s.1, s.2, c.start.ensures.start)

pub returns-else-p-start-clause-before : goal.returns-else-p-start-clause-before
returns-else-p-start-clause-before g c =
    let v = c.args.self.now in
    let m = c.component-component.result in
    sym (before_other (code_of_view v) c.args.p m (sym c.component-component.ensures.component) (λ z. omega (arith, z, c.start-start.ensures.start)))
