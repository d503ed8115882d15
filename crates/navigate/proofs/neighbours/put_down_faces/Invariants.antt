use Rattle.std.proofs.Common.{◌≡◌, ◌≤◌, ◌+◌, ◌*◌, ℕ, true}
use Rattle.std.specs.Prelude.{map, take, drop, length}
use Rattle.plane_model.specs.Sets.{has}
use Rattle.file_laws.specs.MapOfFile.{face_at_place}
use Rattle.pemb_file.specs.Served.{contents_of_view}
use Rattle.navigate.specs.Bound.{line_digits}
use Rattle.navigate.proofs.neighbours.put_down_faces.Given as goal

abbrev pub invariant-loop-place : goal.invariant-loop-place
invariant-loop-place g l =
    let m = contents_of_view l.fn.served in
    record {
      low : (j : ℕ) → has (drop l.place-index l.places) j ≡ true → j ≤ length m.faces;
      faces : l.faces.items ≡ map (face_at_place m) (take l.place-index l.places);
      grows : l.fn.steps ≤ l.steps;
      cost : l.steps ≤ l.fn.steps + (3 * line_digits m + 20) * l.place-index;
    }
