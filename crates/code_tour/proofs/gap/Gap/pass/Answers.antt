use Rattle.std.proofs.Common.{arith}
use Rattle.turan_code.specs.TuranView.{code_of_parts}
use Rattle.turan_code.proofs.Views.{few_components}
use Rattle.turan_code.proofs.Numbered.{component_below}
use Rattle.code_tour.proofs.gap.Gap.pass.Goals as goal

pub overflow_cast-result : goal.overflow_cast-result
overflow_cast-result g c =
    let w = c.requires.short in
    let code = code_of_parts c.args.parts in
    let few = few_components code w.sound in
    let below = component_below code w.sound c.args.p c.requires.within in
    omega (arith, below, few, w.few, c.begun_with-self.ensures.component)
