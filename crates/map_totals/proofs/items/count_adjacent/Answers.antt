use Rattle.std.proofs.Common.{ap, ◌∙◌, arith, length, refl}
use Rattle.map_totals.proofs.items.count_adjacent.Goals as goal

pub loop-face-preserved : goal.loop-face-preserved
loop-face-preserved g c =
    let shorter = ap length c.in-Some.ensures.next in
    let kept = c.loop-face.invariant in
    let least = c.in-Some.ensures.least refl in
    record {
      adds_up = omega (arith, shorter, kept.adds_up);
      contents = c.in-Some.ensures.contents ∙ kept.contents;
      room = c.in-Some.ensures.room ∙ kept.room;
      marks = c.in-Some.ensures.marks;
      least = omega (arith, least, kept.least);
      paid = omega (arith, kept.paid, c.in-Some.ensures.paid);
    }
