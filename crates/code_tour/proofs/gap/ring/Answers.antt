use Rattle.std.proofs.Common.{◌≡◌, ◌+◌, false, ap, ◌∙◌, arith, Some, None}
use Rattle.code_laws.specs.Tour.{ring_code}
use Rattle.turan_code.specs.TuranView.{code_of_parts}
use Rattle.turan_code.proofs.Views.{pair_below, shell_found, outer_found}
use Rattle.code_tour.proofs.Opened.{innermost_is}
use Rattle.code_tour.proofs.gap.ring.Goals as goal

pub overflow_cast-result : goal.overflow_cast-result
overflow_cast-result c =
    let w = c.requires.short in
    let code = code_of_parts c.args.parts in
    let is = innermost_is code w.sound false c.args.p c.args.dual.now (Some c.in-Some.pair) c.requires.dual c.in-Some.ensures in
    let below = pair_below code w.sound false c.args.p c.in-Some.pair c.requires.within is in
    omega (arith, below, w.few)

pub overflow_add-result : goal.overflow_add-result
overflow_add-result c =
    let w = c.requires.short in
    let code = code_of_parts c.args.parts in
    let is = innermost_is code w.sound false c.args.p c.args.dual.now (Some c.in-Some.pair) c.requires.dual c.in-Some.ensures in
    let below = pair_below code w.sound false c.args.p c.in-Some.pair c.requires.within is in
    omega (arith, below, w.few)

pub returns-in-Some : goal.returns-in-Some
returns-in-Some c =
    let w = c.requires.short in
    let code = code_of_parts c.args.parts in
    let is = innermost_is code w.sound false c.args.p c.args.dual.now (Some c.in-Some.pair) c.requires.dual c.in-Some.ensures in
    let e : c.in-Some.pair + 1 ≡ 1 + c.in-Some.pair = omega arith in
    e ∙ ap ring_code (shell_found code w.sound c.args.p c.in-Some.pair is)

pub returns-in-None : goal.returns-in-None
returns-in-None c =
    let w = c.requires.short in
    let code = code_of_parts c.args.parts in
    let is = innermost_is code w.sound false c.args.p c.args.dual.now None c.requires.dual c.in-None.ensures in
    ap ring_code (outer_found code w.sound c.args.p is)
