use Rattle.std.proofs.Common.{arith, ◌∙◌, ap}
use Rattle.std.specs.Prelude.{slice_index}
use Rattle.pemb_file.specs.Served.{contents_of_view}
use Rattle.pemb_file.proofs.PlaceLaws.{many, component_at, places_rise}
use Rattle.pemb_file.proofs.marking.components_from.Goals as goal

pub place_order-component-requires : goal.place_order-component-requires
place_order-component-requires g c =
    let all = many (contents_of_view c.args.served) c.args.served.whole in
    omega (arith, all, c.counts-count.ensures.components, c.loop-below-test.true)

pub place-requires : goal.place-requires
place-requires g c =
    let m = contents_of_view c.args.served in
    let all = many m c.args.served.whole in
    let l = component_at m c.args.served.whole c.loop-below.below (omega (arith, all, c.counts-count.ensures.components, c.loop-below-test.true)) in
    omega (arith, l, c.place_order-component.ensures.component)

pub returns-then-from-place-clause-milestone : goal.returns-then-from-place-clause-milestone
returns-then-from-place-clause-milestone g c =
    let m = contents_of_view c.args.served in
    let at = c.place.ensures.place ∙ ap (slice_index m.places) c.place_order-component.ensures.component in
    record {
      within = c.loop-below.invariant.within;
      before = c.loop-below.invariant.before;
      from = λ j l there. let up = places_rise m c.args.served.whole c.loop-below.below j l there in omega (arith, up, at, c.if-from-place.true, c.from.ensures);
    }

pub loop-below-preserved : goal.loop-below-preserved
loop-below-preserved g c =
    let m = contents_of_view c.args.served in
    let i = c.loop-below.invariant in
    let all = many m c.args.served.whole in
    let at = c.place.ensures.place ∙ ap (slice_index m.places) c.place_order-component.ensures.component in
    record {
      within = omega (arith, all, c.counts-count.ensures.components, c.loop-below-test.true);
      before = λ j l.
          let up = places_rise m c.args.served.whole j c.loop-below.below (omega (arith, l)) (omega (arith, all, c.counts-count.ensures.components, c.loop-below-test.true)) in
          omega (arith, up, at, c.if-from-place.false, c.from.ensures);
      grows = omega (arith, i.grows, c.place_order-component.ensures.one_step, c.place.ensures.one_step);
      paid = omega (arith, i.paid, c.place_order-component.ensures.one_step, c.place.ensures.one_step);
    }

pub returns-clause-milestone : goal.returns-clause-milestone
returns-clause-milestone g c =
    let all = many (contents_of_view c.args.served) c.args.served.whole in
    record {
      within = c.loop-below.invariant.within;
      before = c.loop-below.invariant.before;
      from = λ j l there. absurd (omega (arith, l, there, all, c.counts-count.ensures.components, c.loop-below-test.false));
    }
