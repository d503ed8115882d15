use Rattle.std.proofs.Common.{arith}
use Rattle.turan_code.specs.TuranView.{code_of_view}
use Rattle.pemb_file.specs.Served.{contents_of_view}
use Rattle.navigate.proofs.Facts.{digits_view}
use Rattle.navigate.proofs.positions.mate_of.Goals as goal

pub returns-clause-cost : goal.returns-clause-cost
returns-clause-cost g c =
    let d = digits_view (contents_of_view c.args.served) c.args.served.whole (code_of_view c.code.result.now) c.code.ensures.code in
    omega (arith, d, c.mate.ensures.cost)
