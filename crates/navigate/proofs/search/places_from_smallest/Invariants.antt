use Rattle.std.proofs.Common.{◌≡◌, ◌<◌, ◌≤◌, ◌+◌, ◌*◌, length, false}
use Rattle.code_laws.specs.Orbits.{orbit}
use Rattle.file_laws.specs.MapOfFile.{signed_at}
use Rattle.navigate.specs.Ranked.{IsRankOf}
use Rattle.navigate.specs.Beside.{place_across}
use Rattle.navigate.specs.Least.{least, smallest_of}
use Rattle.pemb_file.specs.Served.{contents_of_view}
use Rattle.navigate.specs.OrbitWalk.{contents_in, edge_names, positions_left, across_price}
use Rattle.navigate.proofs.Turning.{IsTurned}
use Rattle.navigate.proofs.search.places_from_smallest.Given as goal

abbrev pub invariant-loop-walk : goal.invariant-loop-walk
invariant-loop-walk g l =
    let m = contents_of_view l.fn.served in
    record {
      map : contents_in l.walk ≡ m;
      names : edge_names l.walk ≡ edge_names l.initial.walk;
      kind : l.walk.kind ≡ false;
      within : l.best.0 < length m.code.a;
      edge : IsRankOf (edge_names l.walk) l.best.1 (signed_at m l.best.0);
      least_left : least m l.best.0 (positions_left l.walk) ≡ smallest_of m false l.p;
      turned : IsTurned (place_across m) (orbit m.code false l.p) l.best.0 l.before l.places.items (positions_left l.walk);
      grows : l.fn.steps + 1 ≤ l.steps;
      many : l.fn.steps + length l.places.items ≤ l.steps;
      paid : l.steps + across_price m * length (positions_left l.walk) ≤ l.fn.steps + across_price m * length (orbit m.code false l.p);
    }

abbrev pub decreases-loop-walk : goal.decreases-loop-walk
decreases-loop-walk g l = length (positions_left l.walk)
