use Rattle.std.proofs.Common.{◌≡◌, ◌<◌, ◌≤◌, ◌+◌, ◌*◌, length}
use Rattle.file_laws.specs.MapOfFile.{signed_at}
use Rattle.navigate.specs.Ranked.{IsRankOf}
use Rattle.navigate.specs.Least.{least, smallest_of}
use Rattle.pemb_file.specs.Served.{contents_of_view}
use Rattle.navigate.specs.OrbitWalk.{contents_in, edge_names, positions_left, rank_price}
use Rattle.navigate.proofs.search.searched.Given as goal

abbrev pub invariant-loop-found : goal.invariant-loop-found
invariant-loop-found g l =
    let m = contents_of_view l.fn.served in
    record {
      map : contents_in l.walk ≡ m;
      names : edge_names l.walk ≡ edge_names l.initial.walk;
      kind : l.walk.kind ≡ l.kind;
      within : l.best.0 < length m.code.a;
      edge : IsRankOf (edge_names l.walk) l.best.1 (signed_at m l.best.0);
      least_left : least m l.best.0 (positions_left l.walk) ≡ smallest_of m l.kind l.p;
      grows : l.fn.steps ≤ l.steps;
      paid : l.steps + rank_price m * length (positions_left l.walk) ≤ l.fn.steps + rank_price m * length (positions_left l.initial.walk);
    }

abbrev pub decreases-loop-found : goal.decreases-loop-found
decreases-loop-found g l = length (positions_left l.walk)
