use Rattle.std.proofs.Common.{arith, ◌+◌, ◌-◌, ◌/◌}
use Rattle.std.proofs.Common.{length}
use Rattle.bit_words.proofs.DigitLaws.{digits-mono}
use Rattle.pemb_file.specs.Served.{contents_of_view}
use Rattle.pemb_file.proofs.PlaceLaws.{nodes_rise, lower_half, upper_half}
use Rattle.navigate.proofs.places.isolated_below.Goals as goal

pub loop-low-init : goal.loop-low-init
loop-low-init g c =
    let around = c.isolated_around-low.ensures in
    let d = digits-mono (c.isolated_around-low.result.1 - c.isolated_around-low.result.0) (length (contents_of_view c.args.served).isolated) (omega (arith, around.within)) in
    record {
      order = around.order;
      within = around.within;
      before = around.before;
      from = around.behind;
      grows = omega arith;
      paid = omega (arith, d);
    }

pub loop-low-preserved-then-isolated-place : goal.loop-low-preserved-then-isolated-place
loop-low-preserved-then-isolated-place g c =
    let m = contents_of_view c.args.served in
    let i = c.loop-low.invariant in
    let low = c.loop-low.low in
    let high = c.loop-low.high in
    let half = upper_half low high c.loop-low-test.true in
    let middle = low + (high - low) / 2 in
    let at = c.isolated.ensures.place in
    record {
      order = omega (arith, c.loop-low-test.true);
      within = i.within;
      before = λ k l. let up = nodes_rise m c.args.served.whole k middle (omega (arith, l)) (omega (arith, i.within, c.loop-low-test.true)) in omega (arith, up, at, c.if-isolated-place.true);
      from = i.from;
      grows = omega (arith, i.grows, c.isolated.ensures.one_step);
      paid = omega (arith, half, i.paid, c.isolated.ensures.one_step);
    }

pub loop-low-preserved : goal.loop-low-preserved
loop-low-preserved g c =
    let m = contents_of_view c.args.served in
    let i = c.loop-low.invariant in
    let low = c.loop-low.low in
    let high = c.loop-low.high in
    let half = lower_half low high c.loop-low-test.true in
    let middle = low + (high - low) / 2 in
    let at = c.isolated.ensures.place in
    record {
      order = omega (arith, c.loop-low-test.true);
      within = omega (arith, i.within, c.loop-low-test.true);
      before = i.before;
      from = λ k l below. let up = nodes_rise m c.args.served.whole middle k l below in omega (arith, up, at, c.if-isolated-place.false);
      grows = omega (arith, i.grows, c.isolated.ensures.one_step);
      paid = omega (arith, half, i.paid, c.isolated.ensures.one_step);
    }

pub returns-clause-from : goal.returns-clause-from
returns-clause-from g c = λ k l below. c.loop-low.invariant.from k (omega (arith, l, c.loop-low-test.false)) below

pub returns-clause-cost : goal.returns-clause-cost
returns-clause-cost g c = omega (arith, c.loop-low.invariant.paid)
