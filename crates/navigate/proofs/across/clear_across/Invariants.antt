use Rattle.std.specs.Prelude.{map, not, ◌&&◌}
use Rattle.std.proofs.Common.{◌≡◌, ◌≤◌, ◌+◌, ◌*◌, ℕ, length}
use Rattle.scratch_region.specs.Marks.{room_of, is_marked}
use Rattle.plane_model.specs.Sets.{has}
use Rattle.navigate.specs.Beside.{place_across}
use Rattle.navigate.specs.FaceWalk as rings
use Rattle.navigate.specs.FaceWalk.{face_positions, pass_price}
use Rattle.navigate.proofs.across.clear_across.Given as goal

-- the marks that are left, without those across what is left of the rings, are those of all without all
abbrev pub invariant-loop-p : goal.invariant-loop-p
invariant-loop-p g l =
    let m = rings.contents_in l.fn.walk in
    record {
      same : rings.contents_in l.rings ≡ m;
      room : room_of l.marks ≡ room_of l.fn.marks;
      marked : (j : ℕ) → (is_marked l.marks j && not (has (map (place_across m) (face_positions l.rings)) j)) ≡ (is_marked l.fn.marks j && not (has (map (place_across m) (face_positions l.fn.walk)) j));
      grows : l.fn.steps ≤ l.steps;
      paid : l.steps + pass_price m * length (face_positions l.rings) ≤ l.fn.steps + pass_price m * length (face_positions l.fn.walk);
    }

abbrev pub decreases-loop-p : goal.decreases-loop-p
decreases-loop-p g l = length (face_positions l.rings)
