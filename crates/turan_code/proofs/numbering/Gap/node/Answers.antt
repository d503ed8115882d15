use Rattle.std.proofs.Common.{◌+◌, true, ap, ◌∙◌, arith, Some, None}
use Rattle.turan_code.specs.Numbering.{code_of_walk}
use Rattle.turan_code.proofs.Views.{pair_below, few_components, node_found, root_found}
use Rattle.turan_code.proofs.Numbered.{innermost_is, component_below}
use Rattle.turan_code.proofs.numbering.Gap.node.Goals as goal

pub overflow_cast-result-in-Some : goal.overflow_cast-result-in-Some
overflow_cast-result-in-Some c =
    let w = c.requires.walk in
    let code = code_of_walk c.args.walk in
    let is = innermost_is code w.sound true c.args.p c.args.self.now.tree (Some c.in-Some.pair) c.requires.tree c.in-Some.ensures in
    let below = pair_below code w.sound true c.args.p c.in-Some.pair c.requires.within is in
    let few = few_components code w.sound in
    omega (arith, below, few, w.few, c.components.ensures)

pub returns-in-Some : goal.returns-in-Some
returns-in-Some c =
    let w = c.requires.walk in
    let code = code_of_walk c.args.walk in
    let is = innermost_is code w.sound true c.args.p c.args.self.now.tree (Some c.in-Some.pair) c.requires.tree c.in-Some.ensures in
    ap (λ n. n + c.in-Some.pair) c.components.ensures ∙ node_found code w.sound c.args.p c.in-Some.pair is

pub overflow_cast-result-in-None : goal.overflow_cast-result-in-None
overflow_cast-result-in-None c =
    let w = c.requires.walk in
    let code = code_of_walk c.args.walk in
    let few = few_components code w.sound in
    let below = component_below code w.sound c.args.p c.requires.within in
    omega (arith, below, few, w.few, c.requires.component)

pub returns-in-None : goal.returns-in-None
returns-in-None c =
    let w = c.requires.walk in
    let code = code_of_walk c.args.walk in
    let is = innermost_is code w.sound true c.args.p c.args.self.now.tree None c.requires.tree c.in-None.ensures in
    c.requires.component ∙ root_found code w.sound c.args.p is
