use Rattle.std.proofs.Common.{◌≡◌, ◌≤◌, ◌+◌, length}
use Rattle.scratch_region.specs.Marks.{room_of}
use Rattle.navigate.specs.AdjacentWalk.{contents_in, rest, allowance, HoldsGiven}
use Rattle.map_totals.proofs.items.count_adjacent.Given as goal

abbrev pub invariant-loop-face : goal.invariant-loop-face
invariant-loop-face g l =
    record {
      adds_up : l.count + length (rest l.walk) ≡ length (rest l.fn.walk);
      contents : contents_in l.walk ≡ contents_in l.fn.walk;
      room : room_of l.marks ≡ room_of l.fn.marks;
      marks : HoldsGiven l.walk l.marks;
      least : l.fn.steps + l.count ≤ l.steps;
      paid : l.steps + allowance l.walk ≤ l.fn.steps + allowance l.fn.walk;
    }

abbrev pub decreases-loop-face : goal.decreases-loop-face
decreases-loop-face g l = length (rest l.walk)
