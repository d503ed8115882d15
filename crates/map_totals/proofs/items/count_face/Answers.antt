use Rattle.std.proofs.Common.{ap, arith, length, refl}
use Rattle.map_totals.proofs.items.count_face.Goals as goal

pub loop-edge-preserved : goal.loop-edge-preserved
loop-edge-preserved g c =
    let shorter = ap length c.in-Some.ensures.gives in
    let kept = c.loop-edge.invariant in
    let least = c.in-Some.ensures.least refl in
    (omega (arith, shorter, kept.0), omega (arith, least, kept.1), omega (arith, kept.2, c.in-Some.ensures.paid))
