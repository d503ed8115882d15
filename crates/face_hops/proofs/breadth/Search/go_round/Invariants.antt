use Rattle.std.specs.Prelude.{map, slice_index}
use Rattle.std.proofs.Common.{◌≡◌, ◌≤◌, ◌+◌, ◌*◌, ℕ, [], ◌∷◌, length}
use Rattle.scratch_region.specs.Numbers.{numbers_of}
use Rattle.file_laws.specs.MapOfFile.{face_at_place}
use Rattle.pemb_file.specs.Served.{contents_of_view}
use Rattle.navigate.specs.Beside.{place_across}
use Rattle.navigate.specs.FaceWalk as rings
use Rattle.navigate.specs.FaceWalk.{face_positions, pass_price}
use Rattle.face_hops.specs.Prices.{rounds_price}
use Rattle.face_hops.proofs.Rounding.{IsRounding}
use Rattle.face_hops.proofs.breadth.Search.go_round.Given as goal

abbrev pub invariant-loop-p : goal.invariant-loop-p
invariant-loop-p g l =
    let c = contents_of_view l.fn.self.served in
    record {
      served : l.self.served ≡ l.fn.self.served;
      from : l.self.from ≡ l.fn.self.from;
      head : l.self.head ≡ l.fn.self.head;
      same : rings.contents_in l.rings ≡ c;
      rounding : IsRounding c l.fn.self.from l.fn.self.head l.place l.number (numbers_of l.self.numbers) (numbers_of l.self.queue) l.self.tail (map (place_across c) (face_positions l.rings));
      kept : (i : ℕ) → i ≤ l.fn.self.head → slice_index (numbers_of l.self.queue) i ≡ slice_index (numbers_of l.fn.self.queue) i;
      grows : l.fn.steps ≤ l.steps;
      paid : l.steps + pass_price c * length (face_positions l.rings) ≤ l.fn.steps + rounds_price c (face_at_place c l.place ∷ []);
    }

abbrev pub decreases-loop-p : goal.decreases-loop-p
decreases-loop-p g l = length (face_positions l.rings)
