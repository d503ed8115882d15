use Rattle.std.proofs.Common.{arith, length, subst}
use Rattle.std.specs.Prelude.{slice_index}
use Rattle.pemb_file.specs.Milestones.{IsMilestone}
use Rattle.pemb_file.specs.Served.{contents_of_view}
use Rattle.pemb_file.proofs.marking.among_isolated.Goals as goal

pub loop-place-preserved : goal.loop-place-preserved
loop-place-preserved g c =
    let m = contents_of_view c.args.served in
    let i = c.loop-place.invariant in
    let e = c.isolated_from-below.ensures in
    record {
      within = e.milestone.within;
      before = rw (c.put.ensures.count, c.put.ensures.stride) (λ j l. let b = e.milestone.before j l in omega (arith, b, c.in-Some.ensures.place));
      milestones = c.put.ensures.milestones _ _ i.milestones (subst (λ p. IsMilestone (slice_index m.isolated) (length m.isolated) p c.isolated_from-below.result) c.in-Some.ensures.place e.milestone);
      grows = omega (arith, i.grows, e.grows);
      paid = omega (arith, i.paid, e.cost, c.put.ensures.count);
    }
