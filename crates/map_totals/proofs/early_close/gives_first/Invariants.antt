use Rattle.std.proofs.Common.{◌≡◌}
use Rattle.scratch_region.specs.Marks.{room_of}
use Rattle.navigate.specs.AdjacentWalk.{contents_in, HoldsGiven}
use Rattle.map_totals.proofs.early_close.gives_first.Given as goal

abbrev pub invariant-loop-k : goal.invariant-loop-k
invariant-loop-k g l = (contents_in l.walk ≡ contents_in l.fn.walk) × (room_of l.marks ≡ room_of l.fn.marks) × HoldsGiven l.walk l.marks
