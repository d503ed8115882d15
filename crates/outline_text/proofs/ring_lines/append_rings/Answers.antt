use Rattle.std.proofs.Common.{◌∙◌, arith}
use Rattle.outline_text.proofs.RingText.{edges_more, few_more, least_more, rings_more, text_more}
use Rattle.outline_text.proofs.ring_lines.append_rings.Goals as goal

pub loop-item-preserved : goal.loop-item-preserved
loop-item-preserved g c =
    let kept = c.loop-item.invariant in
    let next = c.in-Some.ensures.next in
    let one = c.in_ok-begun.ensures in
    record {
      text = text_more _ _ _ _ _ _ _ _ next one.begun one.text kept.text;
      rings = rings_more _ _ _ _ _ _ next one.rings kept.rings;
      edges = edges_more _ _ _ _ _ _ next one.edges kept.edges;
      few = few_more _ _ _ _ _ _ _ _ one.text one.rings one.edges kept.few;
      contents = c.in-Some.ensures.contents ∙ kept.contents;
      room = c.in-Some.ensures.room ∙ kept.room;
      marks = c.in-Some.ensures.marks;
      least = least_more _ _ _ _ _ _ next c.in-Some.ensures.least c.in-Some.ensures.grows kept.least;
      grows = omega (arith, kept.grows, c.in-Some.ensures.grows);
      most = omega (arith, kept.most, c.in-Some.ensures.paid);
    }
