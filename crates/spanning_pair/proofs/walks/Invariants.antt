use Rattle.std.proofs.Common.{length}
use Rattle.spanning_pair.specs.Rotations.{next_dart, node_row}
use Rattle.spanning_pair.specs.Marks.{seen_in, trees_in}
use Rattle.spanning_pair.proofs.Touring.{Touring}
use Rattle.spanning_pair.proofs.walks.Given as goal

abbrev pub invariant-loop-start : goal.invariant-loop-start
invariant-loop-start l =
    Touring (length l.rotation.edges) (length l.rotation.nodes) (next_dart l.rotation) (node_row l.rotation) l.starts l.start-index l.tour.darts.items l.tour.tree.items l.tour.first.items l.tour.starts.items (seen_in l.marks.items) (trees_in l.marks.items) l.visited.items
