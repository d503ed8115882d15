use Rattle.std.proofs.Common.{arith}
use Rattle.turan_code.specs.TuranView.{code_of_view}
use Rattle.turan_code.proofs.Views.{few_components}
use Rattle.turan_code.proofs.view.TuranView.component_of.Goals as goal

pub overflow_cast-result : goal.overflow_cast-result
overflow_cast-result g c =
    let v = c.args.self.now in
    let few = few_components (code_of_view v) v.sound in
    omega (arith, few, v.few, c.component.ensures.within)
