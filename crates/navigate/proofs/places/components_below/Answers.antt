use Rattle.std.proofs.Common.{arith, ◌+◌, ◌-◌, ◌/◌, ◌∙◌, ap}
use Rattle.std.specs.Prelude.{slice_index}
use Rattle.bit_words.proofs.DigitLaws.{digits-mono}
use Rattle.file_laws.specs.Contents.{component_count}
use Rattle.pemb_file.specs.Served.{contents_of_view}
use Rattle.pemb_file.proofs.PlaceLaws.{many, component_at, places_rise, lower_half, upper_half}
use Rattle.navigate.proofs.places.components_below.Goals as goal

pub loop-low-init : goal.loop-low-init
loop-low-init g c =
    let around = c.components_around-low.ensures in
    let all = many (contents_of_view c.args.served) c.args.served.whole in
    let d = digits-mono (c.components_around-low.result.1 - c.components_around-low.result.0) (component_count (contents_of_view c.args.served)) (omega (arith, around.within, all)) in
    record {
      order = around.order;
      within = around.within;
      before = around.before;
      from = around.behind;
      grows = omega arith;
      paid = omega (arith, d);
    }

pub place-requires : goal.place-requires
place-requires g c =
    let m = contents_of_view c.args.served in
    let low = c.loop-low.low in
    let high = c.loop-low.high in
    let l = component_at m c.args.served.whole (low + (high - low) / 2) (omega (arith, c.loop-low.invariant.within, c.loop-low-test.true)) in
    omega (arith, l, c.place_order-component.ensures.component)

pub loop-low-preserved-then-place : goal.loop-low-preserved-then-place
loop-low-preserved-then-place g c =
    let m = contents_of_view c.args.served in
    let i = c.loop-low.invariant in
    let low = c.loop-low.low in
    let high = c.loop-low.high in
    let half = upper_half low high c.loop-low-test.true in
    let middle = low + (high - low) / 2 in
    let at = c.place.ensures.place ∙ ap (slice_index m.places) c.place_order-component.ensures.component in
    record {
      order = omega (arith, c.loop-low-test.true);
      within = i.within;
      before = λ k l. let up = places_rise m c.args.served.whole k middle (omega (arith, l)) (omega (arith, i.within, c.loop-low-test.true)) in omega (arith, up, at, c.if-place.true);
      from = i.from;
      grows = omega (arith, i.grows, c.place_order-component.ensures.one_step, c.place.ensures.one_step);
      paid = omega (arith, half, i.paid, c.place_order-component.ensures.one_step, c.place.ensures.one_step);
    }

pub loop-low-preserved : goal.loop-low-preserved
loop-low-preserved g c =
    let m = contents_of_view c.args.served in
    let i = c.loop-low.invariant in
    let low = c.loop-low.low in
    let high = c.loop-low.high in
    let half = lower_half low high c.loop-low-test.true in
    let middle = low + (high - low) / 2 in
    let at = c.place.ensures.place ∙ ap (slice_index m.places) c.place_order-component.ensures.component in
    record {
      order = omega (arith, c.loop-low-test.true);
      within = omega (arith, i.within, c.loop-low-test.true);
      before = i.before;
      from = λ k l below. let up = places_rise m c.args.served.whole middle k l below in omega (arith, up, at, c.if-place.false);
      grows = omega (arith, i.grows, c.place_order-component.ensures.one_step, c.place.ensures.one_step);
      paid = omega (arith, half, i.paid, c.place_order-component.ensures.one_step, c.place.ensures.one_step);
    }

pub returns-clause-from : goal.returns-clause-from
returns-clause-from g c = λ k l below. c.loop-low.invariant.from k (omega (arith, l, c.loop-low-test.false)) below

pub returns-clause-cost : goal.returns-clause-cost
returns-clause-cost g c = omega (arith, c.loop-low.invariant.paid)
