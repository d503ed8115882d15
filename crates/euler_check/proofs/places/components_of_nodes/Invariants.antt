use Rattle.std.proofs.Common.{length}
use Rattle.euler_check.specs.Counts.{AreLabelParts, LeavesRow}
use Rattle.euler_check.proofs.places.components_of_nodes.Given as goal

-- the nodes that the darts so far leave have their components
abbrev pub invariant-loop-dart : goal.invariant-loop-dart
invariant-loop-dart l = AreLabelParts l.components (LeavesRow l.rotation) (length l.rotation.nodes) l.dart l.numbers.items
