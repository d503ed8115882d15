use Rattle.std.proofs.Common.{◌∙◌}
use Rattle.turan_code.specs.TuranView.{code_of_view}
use Rattle.turan_code.proofs.Views.{round_at}
use Rattle.turan_code.proofs.view.TuranView.enclosing_pair.Goals as goal

pub returns-clause-pair : goal.returns-clause-pair
returns-clause-pair g c =
    let v = c.args.self.now in
    c.pair_round.ensures.pair ∙ round_at (code_of_view v) c.args.kind c.args.p c.place-place.result c.place-place.ensures.place
