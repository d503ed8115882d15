use Rattle.std.specs.Prelude.{map, find, slice_index, ◌==◌}
use Rattle.std.proofs.Common.{◌≡◌, ◌≤◌, ◌+◌, ◌*◌, [], ◌∷◌, length}
use Rattle.scratch_region.specs.Numbers.{numbers_of}
use Rattle.file_laws.specs.MapOfFile.{face_at_place}
use Rattle.pemb_file.specs.Served.{contents_of_view}
use Rattle.navigate.specs.Beside.{place_across}
use Rattle.navigate.specs.FaceWalk as rings
use Rattle.navigate.specs.FaceWalk.{face_positions, pass_price}
use Rattle.face_hops.specs.Prices.{rounds_price}
use Rattle.face_hops.proofs.walk.HopWalk.nearer.Given as goal

abbrev pub invariant-loop-p : goal.invariant-loop-p
invariant-loop-p g l =
    let c = contents_of_view l.self.served in
    let ds = numbers_of l.self.distances in
    record {
      same : rings.contents_in l.rings ≡ c;
      left : find (λ q. slice_index ds q + 1 == l.number) (map (place_across c) (face_positions l.rings)) ≡ find (λ q. slice_index ds q + 1 == l.number) (map (place_across c) (face_positions l.initial.rings));
      read : l.fn.steps ≤ l.steps;
      paid : l.steps + pass_price c * length (face_positions l.rings) ≤ l.fn.steps + rounds_price c (face_at_place c l.self.place ∷ []);
    }

abbrev pub decreases-loop-p : goal.decreases-loop-p
decreases-loop-p g l = length (face_positions l.rings)
