use Rattle.std.proofs.Common.{◌<◌, true, sym, subst}
use Rattle.code_laws.specs.Code.{mate}
use Rattle.code_laws.specs.Numbers.{node_count}
use Rattle.turan_code.specs.TuranView.{code_of_view}
use Rattle.turan_code.proofs.Views.{mate_within, mate_component, pair_small, node_below}
use Rattle.turan_code.proofs.view.TuranView.node_reached.Goals as goal

pub node_of_pair-requires-clause-small : goal.node_of_pair-requires-clause-small
node_of_pair-requires-clause-small g c =
    let v = c.args.self.now in
    let code = code_of_view v in
    pair_small code v.sound true (mate code c.args.p) c.pair_across-pair.result (mate_within code v.sound c.args.p c.requires) c.pair_across-pair.ensures.pair

pub returns-clause-node : goal.returns-clause-node
returns-clause-node g c =
    let v = c.args.self.now in
    let code = code_of_view v in
    c.node_of_pair.ensures.node (mate code c.args.p) c.pair_across-pair.ensures.pair (mate_component code v.sound c.args.p c.requires)

pub returns-clause-within : goal.returns-clause-within
returns-clause-within g c =
    let v = c.args.self.now in
    let code = code_of_view v in
    subst (λ n. n < node_count code) (sym (returns-clause-node g c)) (node_below code v.sound (mate code c.args.p) (mate_within code v.sound c.args.p c.requires))
