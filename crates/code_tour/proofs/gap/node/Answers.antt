use Rattle.std.proofs.Common.{◌+◌, ◌-◌, true, ap, ◌∙◌, arith, Some, None}
use Rattle.turan_code.specs.TuranView.{code_of_parts}
use Rattle.turan_code.proofs.Views.{pair_below, few_components, node_found, root_found}
use Rattle.turan_code.proofs.Numbered.{component_below}
use Rattle.code_tour.proofs.Opened.{innermost_is}
use Rattle.code_tour.proofs.gap.node.Goals as goal

pub overflow_add-result : goal.overflow_add-result
overflow_add-result c =
    let w = c.requires.short in
    let code = code_of_parts c.args.parts in
    let is = innermost_is code w.sound true c.args.p c.args.tree.now (Some c.in-Some.pair) c.requires.tree c.in-Some.ensures in
    let below = pair_below code w.sound true c.args.p c.in-Some.pair c.requires.within is in
    let few = few_components code w.sound in
    omega (arith, below, few, w.few, c.count.ensures)

pub overflow_cast-result : goal.overflow_cast-result
overflow_cast-result c =
    let w = c.requires.short in
    let code = code_of_parts c.args.parts in
    let is = innermost_is code w.sound true c.args.p c.args.tree.now (Some c.in-Some.pair) c.requires.tree c.in-Some.ensures in
    let below = pair_below code w.sound true c.args.p c.in-Some.pair c.requires.within is in
    let few = few_components code w.sound in
    omega (arith, below, few, w.few, c.count.ensures)

pub returns-in-Some : goal.returns-in-Some
returns-in-Some c =
    let w = c.requires.short in
    let code = code_of_parts c.args.parts in
    let is = innermost_is code w.sound true c.args.p c.args.tree.now (Some c.in-Some.pair) c.requires.tree c.in-Some.ensures in
    ap (λ n. n - 1 + c.in-Some.pair) c.count.ensures ∙ node_found code w.sound c.args.p c.in-Some.pair is

pub overflow_cast-result-in-None : goal.overflow_cast-result-in-None
overflow_cast-result-in-None c =
    let w = c.requires.short in
    let code = code_of_parts c.args.parts in
    let few = few_components code w.sound in
    let below = component_below code w.sound c.args.p c.requires.within in
    omega (arith, below, few, w.few, c.requires.component)

pub returns-in-None : goal.returns-in-None
returns-in-None c =
    let w = c.requires.short in
    let code = code_of_parts c.args.parts in
    let is = innermost_is code w.sound true c.args.p c.args.tree.now None c.requires.tree c.in-None.ensures in
    c.requires.component ∙ root_found code w.sound c.args.p is
