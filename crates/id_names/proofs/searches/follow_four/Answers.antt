use Rattle.std.proofs.Common.{◌≡◌, ◌+◌, ◌-◌, map, length, ◌∙◌, ap, subst, sym, arith}
use Rattle.bit_words.specs.Digits.{digits}
use Rattle.bit_words.specs.PackedView.{fields_of}
use Rattle.id_names.specs.Inverse.{stride}
use Rattle.id_names.specs.Searches.{number_for, each_within}
use Rattle.id_names.proofs.searches.follow_four.Goals as goal
use Rattle.id_names.proofs.searches.follow_four.Goals.{else-loop-test, then-loop-test+then-have_ended}

pub loop-init : goal.loop-init
loop-init g c =
    let v = c.args.inverse.now in
    let tests : c.binary_digits-end.result + 1 - 0 ≡ stride (length (fields_of v.places)) + 1 = omega (arith, c.binary_digits-end.ensures.count ∙ ap (λ n. digits (n + 2)) c.count.ensures) in
    record {
      left = rw tests (c.begun-searches.ensures.found v);
      grows = omega arith;
      steps = omega (arith, c.begun-searches.ensures.jumps);
    }

pub loop-preserved : goal.loop-preserved
loop-preserved g c =
    let v = c.args.inverse.now in
    let l = c.loop in
    let left = c.binary_digits-end.result + 1 - (l.counter + 1) in
    let one_more : left + 1 ≡ c.binary_digits-end.result + 1 - l.counter = omega (arith, c.loop-test.true) in
    record {
      left = c.step.ensures.found left ∙ rw one_more l.invariant.left;
      grows = omega (arith, l.invariant.grows, c.step.ensures.grows);
      steps = omega (arith, l.invariant.steps, c.step.ensures.cost);
    }

pub returns-clause-numbers : goal.returns-clause-numbers
returns-clause-numbers g c =
    let v = c.args.inverse.now in
    let l = c.loop in
    c.found.ensures v ∙ elim c.loop-test.branch [
      | else-loop-test w ↦
          let none : c.binary_digits-end.result + 1 - l.counter ≡ 0 = omega (arith, w.loop-test.false) in
          subst (λ n. each_within v n l.searches ≡ map (number_for v) c.args.places) none l.invariant.left
      | then-loop-test+then-have_ended w ↦ sym (w.have_ended.ensures w.if-have_ended.true v (c.binary_digits-end.result + 1 - l.counter)) ∙ l.invariant.left
    ]
