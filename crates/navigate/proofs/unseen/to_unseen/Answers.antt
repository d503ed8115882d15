use Rattle.std.proofs.Common.{arith, sym, ◌∙◌, ap, ◌≡◌, ◌+◌, ◌*◌, ◌∷◌, true, length}
use Rattle.std.specs.Prelude.{drop, ◌==◌, ◌||◌}
use Rattle.scratch_region.specs.Marks.{is_marked}
use Rattle.plane_model.specs.Sets.{has}
use Rattle.file_laws.specs.Contents.{Contents}
use Rattle.navigate.specs.Bound.{line_digits}
use Rattle.navigate.specs.Beside.{place_across, unseen}
use Rattle.navigate.specs.FaceWalk.{contents_in, face_positions}
use Rattle.navigate.proofs.Resting.{passed, passed_some, passed_shorter}
use Rattle.navigate.proofs.FaceLaws.{face_passed_cost}
use Rattle.navigate.proofs.FreshLaws.{unseen-known, test_parts, one_head}
use Rattle.navigate.proofs.unseen.to_unseen.Goals as goal

pub loop-p-preserved : goal.loop-p-preserved
loop-p-preserved g c =
    let m = contents_in c.args.ring.now in
    let i = c.loop-p.invariant in
    let old = face_positions c.loop-p.ring in
    let new = face_positions c.pass.new.self in
    let next : old ≡ c.in-Some.p ∷ new = passed old new (drop 1 old) c.in-Some.p c.pass.result c.in-Some.ensures.next c.pass.ensures.next in
    let cost = passed_some old new (drop 1 old) c.in-Some.p c.pass.result c.place_across-across.new.steps c.pass.new.steps (8 * line_digits (contents_in c.loop-p.ring) + 66) c.in-Some.ensures.next c.pass.ensures.next c.pass.ensures.cost in
    let digits = ap line_digits i.map in
    let face = c.place_across-across.ensures.place ∙ ap (λ (x : Contents). place_across x c.in-Some.p) i.map in
    record {
      map = c.pass.ensures.contents ∙ i.map;
      unseen_left = λ seen h.
          let known : ((c.place_across-across.result == c.args.place) || has seen c.place_across-across.result) ≡ true
          = ap (λ b. (c.place_across-across.result == c.args.place) || b) (sym (h c.place_across-across.result)) ∙ sym c.is_known.ensures ∙ c.if-not-is_known.false in
          sym (unseen-known m c.args.place seen c.in-Some.p c.place_across-across.result new face known) ∙ ap (unseen m c.args.place seen) (sym next) ∙ i.unseen_left seen h;
      shorter = let e = passed_shorter old new c.in-Some.p next in omega (arith, e, i.shorter);
      grows = omega (arith, i.grows, cost.0, c.place_across-across.ensures.some_steps);
      paid = face_passed_cost m old new c.in-Some.p c.loop-p.steps c.place_across-across.new.steps c.pass.new.steps _ next i.paid (omega (arith, digits, c.place_across-across.ensures.cost)) (omega (arith, digits, cost.1));
    }

pub returns-then-not-is_known-clause-stands : goal.returns-then-not-is_known-clause-stands
returns-then-not-is_known-clause-stands g c = λ seen h p ps e.
    let m = contents_in c.args.ring.now in
    let i = c.loop-p.invariant in
    let x = c.place_across-across.result in
    let parts = test_parts x c.args.place (is_marked c.args.marks.now x) (sym c.is_known.ensures ∙ c.if-not-is_known.true) in
    let same : c.in-Some.p ≡ p = one_head c.in-Some.p p (drop 1 (face_positions c.loop-p.ring)) ps (sym c.in-Some.ensures.next ∙ e) in
    let many = ap (λ (y : Contents). length y.faces) i.map in
    record {
      face = c.place_across-across.ensures.place ∙ ap (λ (y : Contents). place_across y c.in-Some.p) i.map ∙ ap (place_across m) same;
      other = parts.0;
      new = sym (h x) ∙ parts.1;
      low = omega (arith, many, c.place_across-across.ensures.within);
    }
