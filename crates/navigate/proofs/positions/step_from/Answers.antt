use Rattle.std.proofs.Common.{arith}
use Rattle.turan_code.specs.TuranView.{code_of_view}
use Rattle.pemb_file.specs.Served.{contents_of_view}
use Rattle.navigate.proofs.Facts.{digits_view}
use Rattle.navigate.proofs.positions.step_from.Goals as goal

pub returns-then-kind-clause-cost : goal.returns-then-kind-clause-cost
returns-then-kind-clause-cost g c =
    let d = digits_view (contents_of_view c.args.served) c.args.served.whole (code_of_view c.code-code.result.now) c.code-code.ensures.code in
    omega (arith, d, c.turn.ensures.cost)

pub returns-else-kind-clause-cost : goal.returns-else-kind-clause-cost
returns-else-kind-clause-cost g c =
    let d = digits_view (contents_of_view c.args.served) c.args.served.whole (code_of_view c.code-code.result.now) c.code-code.ensures.code in
    omega (arith, d, c.next.ensures.cost)
