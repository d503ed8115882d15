use Rattle.std.proofs.Common.{◌<◌, true, refl, sym, subst}
use Rattle.code_laws.specs.Numbers.{node_count}
use Rattle.turan_code.specs.TuranView.{code_of_view}
use Rattle.turan_code.proofs.Views.{pair_small, node_below}
use Rattle.turan_code.proofs.view.TuranView.node_of.Goals as goal

pub node_of_pair-requires-clause-small : goal.node_of_pair-requires-clause-small
node_of_pair-requires-clause-small g c =
    let v = c.args.self.now in
    pair_small (code_of_view v) v.sound true c.args.p c.enclosing_pair-pair.result c.requires c.enclosing_pair-pair.ensures.pair

pub returns-clause-within : goal.returns-clause-within
returns-clause-within g c =
    let v = c.args.self.now in
    subst (λ n. n < node_count (code_of_view v)) (sym (c.node_of_pair.ensures.node c.args.p c.enclosing_pair-pair.ensures.pair refl)) (node_below (code_of_view v) v.sound c.args.p c.requires)
