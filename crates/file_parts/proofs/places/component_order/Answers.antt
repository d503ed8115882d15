use Rattle.std.proofs.Common.{arith}
use Rattle.pemb_file.specs.Served.{contents_of_view}
use Rattle.pemb_file.proofs.MadeCounts.{many}
use Rattle.file_parts.proofs.Taken.{taken_more, taken_all}
use Rattle.file_parts.proofs.places.component_order.Goals as goal

pub place_order-component-requires : goal.place_order-component-requires
place_order-component-requires g c = let m = many (contents_of_view c.args.served) c.args.served.whole in let each = m.orders in omega (arith, c.loop-j-test.true, each, c.counts-components.ensures.components)

pub loop-j-preserved : goal.loop-j-preserved
loop-j-preserved g c =
    let all = contents_of_view c.args.served in
    let m = many all c.args.served.whole in
    let each = m.orders in
    record {
      order = taken_more all.place_order c.loop-j.j 0 c.loop-j.order.items _ c.place_order-component.result (omega (arith, c.loop-j-test.true, each, c.counts-components.ensures.components)) c.loop-j.invariant.order c.in_ok-push.ensures.items c.place_order-component.ensures.component;
      grows = omega (arith, c.loop-j.invariant.grows, c.place_order-component.ensures.one_step);
    }

pub returns-clause-order : goal.returns-clause-order
returns-clause-order g c =
    let all = contents_of_view c.args.served in
    let m = many all c.args.served.whole in
    let each = m.orders in
    taken_all all.place_order c.loop-j.order.items c.loop-j.j c.loop-j.invariant.order (omega (arith, c.loop-j-test.false, each, c.counts-components.ensures.components))
