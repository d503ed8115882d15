use Rattle.std.proofs.Common.{ap, sym, ◌∙◌, arith}
use Rattle.code_laws.specs.declared.ring_number.RingNumber.TheVariants.{Outer}
use Rattle.turan_code.specs.TuranView.{code_of_view}
use Rattle.turan_code.proofs.Views.{few_components, shell_found, outer_found}
use Rattle.turan_code.proofs.view.TuranView.ring_of_pair.Goals as goal

pub overflow_cast-result-in-None : goal.overflow_cast-result-in-None
overflow_cast-result-in-None g c =
    let v = c.args.self.now in
    let few = few_components (code_of_view v) v.sound in
    omega (arith, few, v.few, c.component.ensures.within)

pub returns-in-Some-clause-ring : goal.returns-in-Some-clause-ring
returns-in-Some-clause-ring g c q pair one =
    let v = c.args.self.now in
    shell_found (code_of_view v) v.sound q c.in-Some.pair (sym c.in-Some.is ∙ pair)

pub returns-in-None-clause-ring : goal.returns-in-None-clause-ring
returns-in-None-clause-ring g c q pair one =
    let v = c.args.self.now in
    ap Outer (c.component.ensures.component ∙ sym one) ∙ outer_found (code_of_view v) v.sound q (sym c.in-None.is ∙ pair)
