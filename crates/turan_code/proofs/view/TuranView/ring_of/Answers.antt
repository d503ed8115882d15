use Rattle.turan_code.specs.TuranView.{code_of_view}
use Rattle.turan_code.proofs.Views.{shell_small}
use Rattle.turan_code.proofs.view.TuranView.ring_of.Goals as goal

pub ring_of_pair-requires-clause-small : goal.ring_of_pair-requires-clause-small
ring_of_pair-requires-clause-small g c =
    let v = c.args.self.now in
    shell_small (code_of_view v) v.sound c.args.p c.enclosing_pair-pair.result c.requires c.enclosing_pair-pair.ensures.pair
