use Rattle.std.proofs.Common.{arith}
use Rattle.pemb_file.specs.Served.{contents_of_view}
use Rattle.pemb_file.proofs.PlaceLaws.{nodes_rise}
use Rattle.pemb_file.proofs.marking.isolated_from.Goals as goal

pub returns-then-from-place-clause-milestone : goal.returns-then-from-place-clause-milestone
returns-then-from-place-clause-milestone g c =
    let m = contents_of_view c.args.served in
    record {
      within = c.loop-below.invariant.within;
      before = c.loop-below.invariant.before;
      from = λ j l there. let up = nodes_rise m c.args.served.whole c.loop-below.below j l there in omega (arith, up, c.isolated.ensures.place, c.if-from-place.true, c.from.ensures);
    }

pub loop-below-preserved : goal.loop-below-preserved
loop-below-preserved g c =
    let m = contents_of_view c.args.served in
    let i = c.loop-below.invariant in
    record {
      within = omega (arith, c.counts-count.ensures.isolated, c.loop-below-test.true);
      before = λ j l.
          let up = nodes_rise m c.args.served.whole j c.loop-below.below (omega (arith, l)) (omega (arith, c.counts-count.ensures.isolated, c.loop-below-test.true)) in
          omega (arith, up, c.isolated.ensures.place, c.if-from-place.false, c.from.ensures);
      grows = omega (arith, i.grows, c.isolated.ensures.one_step);
      paid = omega (arith, i.paid, c.isolated.ensures.one_step);
    }
