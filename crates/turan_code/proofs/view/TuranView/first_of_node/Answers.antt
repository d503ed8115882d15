use Rattle.std.proofs.Common.{◌-◌, ◌<◌, length, true, ap, sym, subst, ◌∙◌, arith, Some}
use Rattle.code_laws.specs.Numbers.{opening_position, one_on}
use Rattle.turan_code.specs.TuranView.{code_of_view}
use Rattle.turan_code.proofs.Views.{root_first, node_first, node_missing, start_inside, node_inside}
use Rattle.turan_code.proofs.view.TuranView.first_of_node.Goals as goal

pub returns-then-node-components-clause-position : goal.returns-then-node-components-clause-position
returns-then-node-components-clause-position g c =
    let v = c.args.self.now in
    ap Some c.start.ensures.start ∙ root_first (code_of_view v) v.sound c.args.node (omega (arith, c.components-components.ensures))

pub returns-then-node-components-clause-none : goal.returns-then-node-components-clause-none
returns-then-node-components-clause-none g c =
    let v = c.args.self.now in
    node_missing (code_of_view v) v.sound c.args.node _
    (ap Some c.start.ensures.start ∙ root_first (code_of_view v) v.sound c.args.node (omega (arith, c.components-components.ensures)))

pub returns-else-node-components-clause-position : goal.returns-else-node-components-clause-position
returns-else-node-components-clause-position g c =
    let v = c.args.self.now in
    let code = code_of_view v in
    c.reached_from.ensures.position ∙ ap (λ k. one_on (opening_position code true (c.args.node - k))) c.components-components.ensures
    ∙ node_first code v.sound c.args.node (omega (arith, c.components-components.ensures))

pub returns-else-node-components-clause-none : goal.returns-else-node-components-clause-none
returns-else-node-components-clause-none g c =
    let v = c.args.self.now in
    let code = code_of_view v in
    node_missing code v.sound c.args.node c.reached_from.result
    (c.reached_from.ensures.position ∙ ap (λ k. one_on (opening_position code true (c.args.node - k))) c.components-components.ensures
    ∙ node_first code v.sound c.args.node (omega (arith, c.components-components.ensures)))

pub returns-then-node-components-clause-within : goal.returns-then-node-components-clause-within
returns-then-node-components-clause-within g c =
    let v = c.args.self.now in
    let code = code_of_view v in
    subst (λ p. p < length code.a) (sym c.start.ensures.start) (start_inside code v.sound c.args.node (omega (arith, c.components-components.ensures)))

pub returns-else-node-components-clause-within : goal.returns-else-node-components-clause-within
returns-else-node-components-clause-within g c =
    let v = c.args.self.now in
    let code = code_of_view v in
    node_inside code v.sound c.args.node c.reached_from.result
    (c.reached_from.ensures.position ∙ ap (λ k. one_on (opening_position code true (c.args.node - k))) c.components-components.ensures
    ∙ node_first code v.sound c.args.node (omega (arith, c.components-components.ensures)))
