use Rattle.plane_model.specs.Rows.{rows_of}
use Rattle.rotation_check.specs.Darts.{signed_edge}
use Rattle.rotation_check.proofs.SmallestNext.{SmallestTo, is_next_of_two}
use Rattle.rotation_check.proofs.darts.Darts.smallest_next_of_two.Given as goal

-- the smallest of the darts so far
abbrev pub invariant-loop-dart : goal.invariant-loop-dart
invariant-loop-dart l = SmallestTo (is_next_of_two (rows_of l.self.tables.now)) (signed_edge l.self.tables.now.edges) l.dart l.smallest
