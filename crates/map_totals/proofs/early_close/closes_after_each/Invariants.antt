use Rattle.std.proofs.Common.{◌≡◌}
use Rattle.scratch_region.specs.Marks.{room_of, IsEmpty}
use Rattle.map_totals.proofs.early_close.closes_after_each.Given as goal

abbrev pub invariant-loop-count : goal.invariant-loop-count
invariant-loop-count g l = (room_of l.marks ≡ room_of l.initial.marks) × IsEmpty l.marks
