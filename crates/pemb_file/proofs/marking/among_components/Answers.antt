use Rattle.std.proofs.Common.{arith, length, subst}
use Rattle.pemb_file.specs.Milestones.{IsMilestone, place_at}
use Rattle.pemb_file.specs.Served.{contents_of_view}
use Rattle.pemb_file.proofs.Bounds.{are_small}
use Rattle.pemb_file.proofs.PlaceLaws.{many}
use Rattle.pemb_file.proofs.marking.among_components.Goals as goal

pub overflow_cast-below : goal.overflow_cast-below
overflow_cast-below g c =
    let m = contents_of_view c.args.served in
    let all = many m c.args.served.whole in
    let small = are_small m c.args.served.whole in
    omega (arith, all, small.components, c.components_from-below.ensures.milestone.within)

pub loop-place-preserved : goal.loop-place-preserved
loop-place-preserved g c =
    let m = contents_of_view c.args.served in
    let i = c.loop-place.invariant in
    let e = c.components_from-below.ensures in
    record {
      within = e.milestone.within;
      before = rw (c.put.ensures.count, c.put.ensures.stride) (λ j l. let b = e.milestone.before j l in omega (arith, b, c.in-Some.ensures.place));
      milestones = c.put.ensures.milestones _ _ i.milestones (subst (λ p. IsMilestone (place_at m) (length m.place_order) p c.components_from-below.result) c.in-Some.ensures.place e.milestone);
      grows = omega (arith, i.grows, e.grows);
      paid = omega (arith, i.paid, e.cost, c.put.ensures.count);
    }
