use Rattle.std.proofs.Common.{◌<◌, ◌-◌, sym, subst, arith}
use Rattle.code_laws.specs.Code.{start_of, component_count}
use Rattle.bit_words.proofs.DigitLaws.{digits-mono}
use Rattle.turan_code.specs.TuranView.{code_of_view}
use Rattle.turan_code.proofs.Views.{component_there, begins_at_zero, ends_with_all, component_found}
use Rattle.turan_code.proofs.view.TuranView.component_by_halving.Goals as goal

pub loop-high-init : goal.loop-high-init
loop-high-init g c =
    let v = c.args.self.now in
    let code = code_of_view v in
    let n = component_there code v.sound c.args.p c.requires in
    let z = begins_at_zero code v.sound in
    let e = ends_with_all code v.sound in
    record {
      order = omega (arith, n, c.components-high.ensures);
      within = omega (arith, c.components-high.ensures);
      from = omega (arith, z);
      to = subst (λ x. c.args.p < start_of code x) (sym c.components-high.ensures) (omega (arith, e, c.requires));
      grows = omega arith;
      steps = omega (arith, c.components-high.ensures, digits-mono (c.components-high.result - 0 - 1) (component_count code) (omega (arith, c.components-high.ensures)));
    }

pub returns-clause-component : goal.returns-clause-component
returns-clause-component g c =
    let v = c.args.self.now in
    component_found (code_of_view v) v.sound c.args.p c.loop-high.low c.loop-high.high (omega arith) c.loop-high.invariant.within c.loop-high.invariant.from c.loop-high.invariant.to
