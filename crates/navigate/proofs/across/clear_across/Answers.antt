use Rattle.std.proofs.Common.{arith, ◌∙◌, ap, ◌≡◌, length}
use Rattle.scratch_region.specs.Marks.{is_marked}
use Rattle.file_laws.specs.Contents.{Contents}
use Rattle.navigate.specs.Bound.{line_digits}
use Rattle.navigate.specs.Beside.{place_across}
use Rattle.navigate.specs.FaceWalk as rings
use Rattle.navigate.specs.FaceWalk.{face_positions}
use Rattle.navigate.proofs.FaceLaws.{face_cleared_cost}
use Rattle.navigate.proofs.ClearLaws.{across_next, across_end}
use Rattle.navigate.proofs.across.clear_across.Goals as goal

pub clear-requires : goal.clear-requires
clear-requires g c =
    let i = c.loop-p.invariant in
    let many = ap (λ (x : Contents). length x.faces) (c.in-Some.ensures.contents ∙ i.same) in
    omega (arith, c.requires, i.room, many, c.place_across-place.ensures.within)

pub loop-p-preserved : goal.loop-p-preserved
loop-p-preserved g c =
    let m = rings.contents_in c.args.walk in
    let i = c.loop-p.invariant in
    let old = face_positions c.loop-p.rings in
    let new = face_positions c.pass.new.self in
    let at : rings.contents_in c.pass.new.self ≡ m = c.in-Some.ensures.contents ∙ i.same in
    let face = c.place_across-place.ensures.place ∙ ap (λ (x : Contents). place_across x c.in-Some.p) at in
    let digits = ap line_digits i.same in
    let digits_after = ap line_digits at in
    record {
      same = at;
      room = c.clear.ensures.room ∙ i.room;
      marked = λ j. across_next m old new c.in-Some.p c.place_across-place.result j (is_marked c.loop-p.marks j) (is_marked c.clear.new.self j) c.in-Some.ensures.next face (c.clear.ensures.marked j) ∙ i.marked j;
      grows = omega (arith, i.grows, c.in-Some.ensures.cost.0, c.place_across-place.ensures.some_steps);
      paid = face_cleared_cost m old new c.in-Some.p c.loop-p.steps c.pass.new.steps c.place_across-place.new.steps _ c.in-Some.ensures.next i.paid (omega (arith, digits, c.in-Some.ensures.cost.1)) (omega (arith, digits_after, c.place_across-place.ensures.cost));
    }

pub returns-clause-marked : goal.returns-clause-marked
returns-clause-marked g c = λ j. across_end (rings.contents_in c.args.walk) (face_positions c.loop-p.rings) j (is_marked c.loop-p.marks j) c.in_default.ensures.next ∙ c.loop-p.invariant.marked j

pub returns-clause-paid : goal.returns-clause-paid
returns-clause-paid g c = omega (arith, c.loop-p.invariant.paid, c.in_default.ensures.cost)
