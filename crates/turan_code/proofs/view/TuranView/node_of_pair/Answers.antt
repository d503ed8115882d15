use Rattle.std.specs.Prelude.{IfSome}
use Rattle.std.proofs.Common.{◌<◌, ◌+◌, length, ap, sym, ◌∙◌, subst, arith}
use Rattle.turan_code.specs.TuranView.{code_of_view}
use Rattle.turan_code.proofs.Views.{few_components, node_found, root_found}
use Rattle.turan_code.proofs.view.TuranView.node_of_pair.Goals as goal

pub overflow_add-result : goal.overflow_add-result
overflow_add-result g c =
    let v = c.args.self.now in
    let code = code_of_view v in
    let few = few_components code v.sound in
    let small = subst (λ o. IfSome o (λ n. n < length code.a)) c.in-Some.is c.requires.small in
    omega (arith, few, v.few, small, c.components.ensures)

pub overflow_cast-result : goal.overflow_cast-result
overflow_cast-result g c =
    let v = c.args.self.now in
    let code = code_of_view v in
    let few = few_components code v.sound in
    let small = subst (λ o. IfSome o (λ n. n < length code.a)) c.in-Some.is c.requires.small in
    omega (arith, few, v.few, small, c.components.ensures)

pub returns-in-Some-clause-node : goal.returns-in-Some-clause-node
returns-in-Some-clause-node g c q pair one =
    let v = c.args.self.now in
    ap (λ n. n + c.in-Some.pair) c.components.ensures ∙ node_found (code_of_view v) v.sound q c.in-Some.pair (sym c.in-Some.is ∙ pair)

pub returns-in-None-clause-node : goal.returns-in-None-clause-node
returns-in-None-clause-node g c q pair one =
    let v = c.args.self.now in
    c.component_of.ensures.component ∙ sym one ∙ root_found (code_of_view v) v.sound q (sym c.in-None.is ∙ pair)
