use Rattle.std.proofs.Common.{◌≡◌, ◌≤◌, ◌+◌, ◌*◌, ℕ, List, length}
use Rattle.scratch_region.specs.Marks.{is_marked}
use Rattle.plane_model.specs.Sets.{has}
use Rattle.navigate.specs.Beside.{unseen}
use Rattle.navigate.specs.FaceWalk.{contents_in, face_positions, pass_price}
use Rattle.navigate.proofs.unseen.to_unseen.Given as goal

abbrev pub invariant-loop-p : goal.invariant-loop-p
invariant-loop-p g l =
    let m = contents_in l.fn.ring in
    record {
      map : contents_in l.ring ≡ m;
      unseen_left : (seen : List ℕ) → ((j : ℕ) → is_marked l.marks j ≡ has seen j) → unseen m l.place seen (face_positions l.ring) ≡ unseen m l.place seen (face_positions l.fn.ring);
      shorter : length (face_positions l.ring) ≤ length (face_positions l.fn.ring);
      grows : l.fn.steps ≤ l.steps;
      paid : l.steps + pass_price m * length (face_positions l.ring) ≤ l.fn.steps + pass_price m * length (face_positions l.fn.ring);
    }

abbrev pub decreases-loop-p : goal.decreases-loop-p
decreases-loop-p g l = length (face_positions l.ring)
