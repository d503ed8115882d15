use Rattle.std.proofs.Common.{arith, false}
use Rattle.pemb_file.specs.Served.{contents_of_view}
use Rattle.pemb_file.proofs.MadeCounts.{many}
use Rattle.file_parts.proofs.Taken.{taken_more, taken_all}
use Rattle.file_parts.proofs.by_number.forward_bits.Goals as goal

pub forward-is_forward-requires : goal.forward-is_forward-requires
forward-is_forward-requires g c = let m = many (contents_of_view c.args.served) c.args.served.whole in let each = m.forward in omega (arith, c.loop-edge-test.true, each, c.counts-edges.ensures.edges)

pub loop-edge-preserved : goal.loop-edge-preserved
loop-edge-preserved g c =
    let all = contents_of_view c.args.served in
    let m = many all c.args.served.whole in
    let each = m.forward in
    record {
      forward = taken_more all.forward c.loop-edge.edge false c.loop-edge.forward.items _ c.forward-is_forward.result (omega (arith, c.loop-edge-test.true, each, c.counts-edges.ensures.edges)) c.loop-edge.invariant.forward c.in_ok-push.ensures.items c.forward-is_forward.ensures.forward;
      grows = omega (arith, c.loop-edge.invariant.grows, c.forward-is_forward.ensures.one_step);
    }

pub returns-clause-forward : goal.returns-clause-forward
returns-clause-forward g c =
    let all = contents_of_view c.args.served in
    let m = many all c.args.served.whole in
    let each = m.forward in
    taken_all all.forward c.loop-edge.forward.items c.loop-edge.edge c.loop-edge.invariant.forward (omega (arith, c.loop-edge-test.false, each, c.counts-edges.ensures.edges))
