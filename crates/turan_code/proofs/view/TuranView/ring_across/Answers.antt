use Rattle.code_laws.specs.Code.{mate}
use Rattle.turan_code.specs.TuranView.{code_of_view}
use Rattle.turan_code.proofs.Views.{mate_within, mate_component, shell_small}
use Rattle.turan_code.proofs.view.TuranView.ring_across.Goals as goal

pub ring_of_pair-requires-clause-small : goal.ring_of_pair-requires-clause-small
ring_of_pair-requires-clause-small g c =
    let v = c.args.self.now in
    let code = code_of_view v in
    shell_small code v.sound (mate code c.args.p) c.pair_across-pair.result (mate_within code v.sound c.args.p c.requires) c.pair_across-pair.ensures.pair

pub returns-clause-ring : goal.returns-clause-ring
returns-clause-ring g c =
    let v = c.args.self.now in
    let code = code_of_view v in
    c.ring_of_pair.ensures.ring (mate code c.args.p) c.pair_across-pair.ensures.pair (mate_component code v.sound c.args.p c.requires)
