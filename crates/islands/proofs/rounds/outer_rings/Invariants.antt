use Rattle.std.proofs.Common.{◌≡◌, length}
use Rattle.islands.proofs.Numbered.{AreSoFar}
use Rattle.islands.proofs.Open.{work_left}
use Rattle.islands.proofs.rounds.outer_rings.Given as goal

abbrev pub invariant-loop-alloc : goal.invariant-loop-alloc
invariant-loop-alloc l = record {
  so_far : AreSoFar l.faces l.components l.face_count l.front.items l.starts.items l.reached.items l.entered.items;
  reached_many : length l.reached.items ≡ l.component_count;
  entered_many : length l.entered.items ≡ l.face_count;
}

abbrev pub decreases-loop-alloc : goal.decreases-loop-alloc
decreases-loop-alloc l = work_left l.entered.items l.front.items
