use Rattle.std.proofs.Common.{◌≡◌, ◌+◌, ◌*◌, length, arith, sym, ◌∙◌, below_more}
use Rattle.turan_code.specs.TuranView.{code_of_view}
use Rattle.pemb_file.specs.PlacedView.{contents_of_placed}
use Rattle.pemb_file.proofs.OuterRings.{first-gap}
use Rattle.pemb_file.proofs.Smallest.{wrong-start, right-starts, one_part}
use Rattle.pemb_file.proofs.PlaceSteps.{at-most}
use Rattle.bit_words.specs.Digits.{digits}
use Rattle.code_laws.specs.Code.{start_of, end_of}
use Rattle.code_laws.proofs.Sound.{sound_parts, rises, start_within}
use Rattle.pemb_file.proofs.places.Placed.check_starts.Goals as goal

pub returns-then-not-is_smallest-clause-fault : goal.returns-then-not-is_smallest-clause-fault
returns-then-not-is_smallest-clause-fault g c =
    wrong-start (contents_of_placed c.args.self.now) c.loop-component.component (omega (arith, c.count-component-end.ensures)) c.loop-component.invariant.pass (sym c.is_smallest.ensures.smallest ∙ c.if-not-is_smallest.true)

pub returns-clause-fault : goal.returns-clause-fault
returns-clause-fault g c = right-starts (contents_of_placed c.args.self.now) (λ k l. c.loop-component.invariant.pass k (omega (arith, c.count-component-end.ensures)))

pub loop-component-init : goal.loop-component-init
loop-component-init g c = record { pass = λ k l. absurd (omega (arith, l)); gap = first-gap (code_of_view c.args.self.now.code) c.args.self.now.code.sound; grows = omega arith; cost = omega arith }

pub loop-component-preserved : goal.loop-component-preserved
loop-component-preserved g c =
    let k = contents_of_placed c.args.self.now in
    let x = 7 * digits (length k.code.a + 2) + 84 in
    let n = c.loop-component.component in
    let laid = (sound_parts k.code c.args.self.now.code.sound).laid in
    let up = rises k.code laid n (omega (arith, c.count-component-end.ensures, c.args.self.now.fits.places)) in
    let one = one_part (start_of k.code n) (end_of k.code n) x 4 n (omega (arith, up)) in
    record { pass = below_more _ _ c.loop-component.invariant.pass (sym c.is_smallest.ensures.smallest ∙ c.if-not-is_smallest.false); gap = c.is_smallest.ensures.gap c.if-not-is_smallest.false; grows = omega arith; cost = omega (arith, one, c.loop-component.invariant.cost, c.is_smallest.ensures.cost) }

pub returns-then-not-is_smallest-clause-cost : goal.returns-then-not-is_smallest-clause-cost
returns-then-not-is_smallest-clause-cost g c =
    let k = contents_of_placed c.args.self.now in
    let x = 7 * digits (length k.code.a + 2) + 84 in
    let n = c.loop-component.component in
    let laid = (sound_parts k.code c.args.self.now.code.sound).laid in
    let up = rises k.code laid n (omega (arith, c.count-component-end.ensures, c.args.self.now.fits.places)) in
    let one = one_part (start_of k.code n) (end_of k.code n) x 4 n (omega (arith, up)) in
    let within = start_within k.code laid (n + 1) (omega (arith, c.count-component-end.ensures, c.args.self.now.fits.places)) in
    let a = at-most (end_of k.code n) (length k.code.a) x within in
    let b = at-most (n + 1) (length k.places) 4 (omega (arith, c.count-component-end.ensures)) in
    omega (arith, one, a, b, c.loop-component.invariant.cost, c.is_smallest.ensures.cost)

pub returns-clause-cost : goal.returns-clause-cost
returns-clause-cost g c =
    let k = contents_of_placed c.args.self.now in
    let x = 7 * digits (length k.code.a + 2) + 84 in
    let n = c.loop-component.component in
    let laid = (sound_parts k.code c.args.self.now.code.sound).laid in
    let e : n ≡ length k.places = omega (arith, c.count-component-end.ensures) in
    let within = start_within k.code laid n (omega (arith, e, c.args.self.now.fits.places)) in
    let a = at-most (start_of k.code n) (length k.code.a) x within in
    let b = at-most n (length k.places) 4 (omega (arith, e)) in
    omega (arith, a, b, c.loop-component.invariant.cost)
