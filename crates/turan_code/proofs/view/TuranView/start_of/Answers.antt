use Rattle.std.proofs.Common.{◌<◌, length, sym, subst, arith}
use Rattle.turan_code.specs.TuranView.{code_of_view}
use Rattle.turan_code.proofs.Views.{start_inside}
use Rattle.turan_code.proofs.view.TuranView.start_of.Goals as goal

pub returns-then-component-components-clause-within : goal.returns-then-component-components-clause-within
returns-then-component-components-clause-within g c =
    let code = code_of_view c.args.self.now in
    subst (λ p. p < length code.a) (sym c.start.ensures.start) (start_inside code c.args.self.now.sound c.args.component (omega (arith, c.components.ensures)))
