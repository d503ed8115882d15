use Rattle.std.proofs.Common.{◌≡◌, ◌+◌, ◌≤◌, ◌++◌, length, false}
use Rattle.scratch_region.specs.Marks.{room_of}
use Rattle.region_border.specs.BorderWalk.{allowance, contents_in, rest, HoldsGiven}
use Rattle.outline_text.specs.Told.{edges_among, rings_among, rings_text}
use Rattle.outline_text.proofs.ring_lines.append_rings.Given as goal

abbrev pub invariant-loop-item : goal.invariant-loop-item
invariant-loop-item g l =
    record {
      text : l.text.items ++ rings_text l.begun (rest l.walk) ≡ l.fn.text.items ++ rings_text false (rest l.fn.walk);
      rings : l.counts.rings + rings_among (rest l.walk) ≡ rings_among (rest l.fn.walk);
      edges : l.counts.edges + edges_among (rest l.walk) ≡ edges_among (rest l.fn.walk);
      few : l.counts.rings + l.counts.edges ≤ length l.text.items;
      contents : contents_in l.walk ≡ contents_in l.fn.walk;
      room : room_of l.marks ≡ room_of l.fn.marks;
      marks : HoldsGiven l.walk l.marks;
      least : l.fn.steps + edges_among (rest l.fn.walk) ≤ l.steps + edges_among (rest l.walk);
      grows : l.fn.steps ≤ l.steps;
      most : l.steps + allowance l.walk ≤ l.fn.steps + allowance l.fn.walk;
    }

abbrev pub decreases-loop-item : goal.decreases-loop-item
decreases-loop-item g l = length (rest l.walk)
