use Rattle.std.proofs.Common.{true, false}
use Rattle.turan_code.specs.TuranView.{code_of_view}
use Rattle.turan_code.proofs.Views.{digits_fewer}
use Rattle.turan_code.proofs.view.TuranView.parens.Goals as goal

pub returns-then-kind-clause-fewer : goal.returns-then-kind-clause-fewer
returns-then-kind-clause-fewer c =
    let v = c.args.self.now in digits_fewer (code_of_view v) v.sound true

pub returns-else-kind-clause-fewer : goal.returns-else-kind-clause-fewer
returns-else-kind-clause-fewer c =
    let v = c.args.self.now in digits_fewer (code_of_view v) v.sound false
