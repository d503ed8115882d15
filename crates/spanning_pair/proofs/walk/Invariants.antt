use Rattle.spanning_pair.specs.Rotations.{next_dart, node_row}
use Rattle.std.proofs.Common.{◌≡◌, ◌+◌, ◌*◌, ◌-◌, length}
use Rattle.spanning_pair.specs.Marks.{seen_in, trees_in}
use Rattle.spanning_pair.proofs.Lists.{Walking}
use Rattle.spanning_pair.proofs.walk.Given as goal

abbrev pub invariant-walk : goal.invariant-walk
invariant-walk l =
    (Walking (length l.fn.marks) (next_dart l.rotation) (node_row l.rotation) l.start l.fn.tour.darts.items l.fn.tour.tree.items l.fn.tour.first.items l.tour.darts.items l.tour.tree.items l.tour.first.items l.current
    (seen_in l.fn.marks) l.fn.visited (seen_in l.marks) (trees_in l.marks) l.visited) × (l.tour.starts.items ≡ l.fn.tour.starts.items)

abbrev pub decreases-walk : goal.decreases-walk
decreases-walk l = 2 * length l.fn.marks + length l.fn.tour.darts.items - length l.tour.darts.items
