use Rattle.std.proofs.Common.{◌-◌, ◌*◌, length}
use Rattle.plane_model.specs.Rows.{rows_of}
use Rattle.rotation_check.proofs.RoundWalk.{RoundSoFar}
use Rattle.rotation_check.proofs.darts.Darts.round_length.Given as goal

-- the round is counted up to the dart that is reached
abbrev pub invariant-loop-at : goal.invariant-loop-at
invariant-loop-at l = RoundSoFar (rows_of l.self.tables.now) l.dart l.at l.length

abbrev pub decreases-loop-at : goal.decreases-loop-at
decreases-loop-at l = 2 * length l.self.tables.now.edges - l.length
