use Rattle.region_tree.specs.Siblings.{AreSiblingsFrom}
use Rattle.region_tree.proofs.siblings.link.Given as goal

abbrev pub invariant-loop-place : goal.invariant-loop-place
invariant-loop-place l = AreSiblingsFrom l.slots l.place l.first.items l.next.items
