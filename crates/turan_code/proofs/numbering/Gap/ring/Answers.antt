use Rattle.std.proofs.Common.{◌≡◌, ◌+◌, false, ap, ◌∙◌, arith, Some, None}
use Rattle.code_laws.specs.Tour.{ring_code}
use Rattle.turan_code.specs.Numbering.{code_of_walk}
use Rattle.turan_code.proofs.Views.{pair_below, shell_found, outer_found}
use Rattle.turan_code.proofs.Numbered.{innermost_is}
use Rattle.turan_code.proofs.numbering.Gap.ring.Goals as goal

pub overflow_add-result : goal.overflow_add-result
overflow_add-result c =
    let w = c.requires.walk in
    let code = code_of_walk c.args.walk in
    let is = innermost_is code w.sound false c.args.p c.args.self.now.dual (Some c.in-Some.pair) c.requires.dual c.in-Some.ensures in
    let below = pair_below code w.sound false c.args.p c.in-Some.pair c.requires.within is in
    omega (arith, below, w.few)

pub returns-in-Some : goal.returns-in-Some
returns-in-Some c =
    let w = c.requires.walk in
    let code = code_of_walk c.args.walk in
    let is = innermost_is code w.sound false c.args.p c.args.self.now.dual (Some c.in-Some.pair) c.requires.dual c.in-Some.ensures in
    let e : c.in-Some.pair + 1 ≡ 1 + c.in-Some.pair = omega arith in
    e ∙ ap ring_code (shell_found code w.sound c.args.p c.in-Some.pair is)

pub returns-in-None : goal.returns-in-None
returns-in-None c =
    let w = c.requires.walk in
    let code = code_of_walk c.args.walk in
    let is = innermost_is code w.sound false c.args.p c.args.self.now.dual None c.requires.dual c.in-None.ensures in
    ap ring_code (outer_found code w.sound c.args.p is)
