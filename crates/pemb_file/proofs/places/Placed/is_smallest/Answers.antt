use Rattle.std.proofs.Math.Facts.{to_z-of_z}
use Rattle.std.proofs.Common.{w64, SFits, rules, ◌≡◌, ◌≤◌, ◌+◌, ◌-◌, ◌*◌, length, inl, inr, arith, ap, sym, ◌∙◌, subst, false, ℕ}
use Rattle.std.proofs.lemmas.Bool.{cases_eq}
use Rattle.turan_code.specs.TuranView.{code_of_view}
use Rattle.bit_words.specs.Digits.{digits}
use Rattle.code_laws.specs.Code.{start_of, end_of}
use Rattle.code_laws.proofs.Sound.{sound_parts, rises}
use Rattle.file_laws.specs.MapOfFile.{signed_at}
use Rattle.pemb_file.specs.Gap.{IsGap}
use Rattle.pemb_file.specs.PlacedView.{contents_of_placed}
use Rattle.pemb_file.proofs.PlaceSteps.{start-below, at-most}
use Rattle.pemb_file.proofs.Smallest.{is_smaller, not-smallest, all-smallest, end-within, component-is, smaller-as, start-not-smaller}
use Rattle.pemb_file.proofs.places.Placed.is_smallest.Goals as goal

pub signed_at-start-requires : goal.signed_at-start-requires
signed_at-start-requires g c =
    let b = start-below (code_of_view c.args.self.now.code) c.args.self.now.code.sound c.args.component c.requires.within in
    omega (arith, b, c.start-from.ensures.start)

pub overflow_step-p : goal.overflow_step-p
overflow_step-p g c =
    let b = start-below (code_of_view c.args.self.now.code) c.args.self.now.code.sound c.args.component c.requires.within in
    omega (arith, b, c.start-from.ensures.start)

pub loop-p-init : goal.loop-p-init
loop-p-init g c =
    let x = 7 * digits (length (contents_of_placed c.args.self.now).code.a + 2) + 84 in
    let e : c.start-from.result + 1 - c.start-from.result ≡ 1 = omega arith in
    let m : (c.start-from.result + 1 - c.start-from.result) * x ≡ x = ap (λ n. n * x) e ∙ omega arith in
    record {
      none = λ x a b. start-not-smaller (contents_of_placed c.args.self.now) c.args.component x (omega (arith, a, b, c.start-from.ensures.start));
      gap = c.pass.ensures.gap;
      grows = omega arith;
      cost = omega (arith, m);
    }

pub is_smaller-requires-clause-within : goal.is_smaller-requires-clause-within
is_smaller-requires-clause-within g c =
    let b = end-within (code_of_view c.args.self.now.code) c.args.self.now.code.sound c.args.component c.requires.within in
    omega (arith, b, c.end-to.ensures.end)

pub pass-requires-clause-within : goal.pass-requires-clause-within
pass-requires-clause-within g c =
    let b = start-below (code_of_view c.args.self.now.code) c.args.self.now.code.sound c.args.component c.requires.within in
    omega (arith, b, c.start-from.ensures.start)

pub pass-requires-in-loop-p-clause-within : goal.pass-requires-in-loop-p-clause-within
pass-requires-in-loop-p-clause-within g c =
    let b = end-within (code_of_view c.args.self.now.code) c.args.self.now.code.sound c.args.component c.requires.within in
    omega (arith, b, c.end-to.ensures.end)

pub returns-then-is_smaller-clause-smallest : goal.returns-then-is_smaller-clause-smallest
returns-then-is_smaller-clause-smallest g c =
    let k = contents_of_placed c.args.self.now in
    let f : SFits w64 c.signed_at-start.result = search rules in
    let same = to_z-of_z f ∙ c.signed_at-start.ensures.value ∙ ap (signed_at k) c.start-from.ensures.start in
    let in_it = component-is k.code c.args.self.now.code.sound c.args.component c.loop-p.p c.requires.within (omega (arith, c.start-from.ensures.start)) (omega (arith, c.end-to.ensures.end)) in
    let here = smaller-as k c.args.component c.loop-p.p _ c.is_smaller.result in_it same c.is_smaller.ensures.smaller in
    let b = end-within (code_of_view c.args.self.now.code) c.args.self.now.code.sound c.args.component c.requires.within in
    sym (not-smallest k c.args.component c.loop-p.p (omega (arith, b, c.end-to.ensures.end)) (sym here ∙ c.if-is_smaller.true))

pub loop-p-preserved : goal.loop-p-preserved
loop-p-preserved g c =
    let k = contents_of_placed c.args.self.now in
    let f : SFits w64 c.signed_at-start.result = search rules in
    let same = to_z-of_z f ∙ c.signed_at-start.ensures.value ∙ ap (signed_at k) c.start-from.ensures.start in
    let in_it = component-is k.code c.args.self.now.code.sound c.args.component c.loop-p.p c.requires.within (omega (arith, c.start-from.ensures.start)) (omega (arith, c.end-to.ensures.end)) in
    let here = smaller-as k c.args.component c.loop-p.p _ c.is_smaller.result in_it same c.is_smaller.ensures.smaller in
    record {
      none = λ x a b. elim (cases_eq x c.loop-p.p) [
        | inl e ↦ let P : ℕ → Type 0 = λ y. is_smaller k c.args.component y ≡ false in subst P (sym e) (sym here ∙ c.if-is_smaller.false)
        | inr n ↦ c.loop-p.invariant.none x a (omega arith)
      ];
      gap = c.pass-in-loop-p.ensures.gap;
      grows = omega arith;
      cost =
          let x = 7 * digits (length k.code.a + 2) + 84 in
          let e : c.loop-p.p + 1 - c.start-from.result ≡ c.loop-p.p - c.start-from.result + 1 = omega arith in
          let m : (c.loop-p.p + 1 - c.start-from.result) * x ≡ (c.loop-p.p - c.start-from.result) * x + x = ap (λ n. n * x) e ∙ omega arith in
          omega (arith, m, c.loop-p.invariant.cost, c.is_smaller.ensures.cost, c.pass-in-loop-p.ensures.cost);
    }

pub returns-clause-smallest : goal.returns-clause-smallest
returns-clause-smallest g c =
    sym (all-smallest (contents_of_placed c.args.self.now) c.args.self.now.code.sound c.args.component
    (λ p a b. c.loop-p.invariant.none p (omega (arith, c.start-from.ensures.start)) (omega (arith, c.end-to.ensures.end))))

pub returns-clause-gap : goal.returns-clause-gap
returns-clause-gap g c _ =
    let k = contents_of_placed c.args.self.now in
    let below = rises k.code (sound_parts k.code c.args.self.now.code.sound).laid c.args.component c.requires.within in
    let e : c.loop-p.p ≡ end_of k.code c.args.component = omega (arith, c.start-from.ensures.start, c.end-to.ensures.end, below) in
    subst (λ (p : ℕ). IsGap k.code p c.loop-p.gap) e c.loop-p.invariant.gap

pub returns-then-is_smaller-clause-cost : goal.returns-then-is_smaller-clause-cost
returns-then-is_smaller-clause-cost g c =
    let k = contents_of_placed c.args.self.now in
    let x = 7 * digits (length k.code.a + 2) + 84 in
    let from = start_of k.code c.args.component in
    let to = end_of k.code c.args.component in
    let l : c.loop-p.p + 1 - c.start-from.result ≤ to - from = omega (arith, c.start-from.ensures.start, c.end-to.ensures.end) in
    let m : (c.loop-p.p + 1 - c.start-from.result) * x ≤ (to - from) * x = at-most (c.loop-p.p + 1 - c.start-from.result) (to - from) x l in
    let e : c.loop-p.p + 1 - c.start-from.result ≡ c.loop-p.p - c.start-from.result + 1 = omega arith in
    let n : (c.loop-p.p + 1 - c.start-from.result) * x ≡ (c.loop-p.p - c.start-from.result) * x + x = ap (λ n. n * x) e ∙ omega arith in
    omega (arith, m, n, c.loop-p.invariant.cost, c.is_smaller.ensures.cost, c.start-from.ensures.cost, c.end-to.ensures.cost, c.signed_at-start.ensures.cost, c.pass.ensures.cost)

pub returns-clause-cost : goal.returns-clause-cost
returns-clause-cost g c =
    let k = contents_of_placed c.args.self.now in
    let x = 7 * digits (length k.code.a + 2) + 84 in
    let from = start_of k.code c.args.component in
    let to = end_of k.code c.args.component in
    let below = rises k.code (sound_parts k.code c.args.self.now.code.sound).laid c.args.component c.requires.within in
    let l : c.loop-p.p - c.start-from.result ≤ to - from = omega (arith, c.start-from.ensures.start, c.end-to.ensures.end, below) in
    let m : (c.loop-p.p - c.start-from.result) * x ≤ (to - from) * x = at-most (c.loop-p.p - c.start-from.result) (to - from) x l in
    omega (arith, m, c.loop-p.invariant.cost, c.start-from.ensures.cost, c.end-to.ensures.cost, c.signed_at-start.ensures.cost, c.pass.ensures.cost)
