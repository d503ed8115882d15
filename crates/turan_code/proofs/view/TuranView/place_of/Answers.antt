use Rattle.std.proofs.Common.{arith}
use Rattle.turan_code.specs.TuranView.{code_of_view}
use Rattle.turan_code.proofs.Views.{place_lt}
use Rattle.turan_code.proofs.view.TuranView.place_of.Goals as goal

pub returns-clause-within : goal.returns-clause-within
returns-clause-within g c =
    let v = c.args.self.now in
    let l = place_lt (code_of_view v) v.sound c.args.kind c.args.p c.requires.within c.requires.kind in
    omega (arith, l, c.place.ensures.place)
