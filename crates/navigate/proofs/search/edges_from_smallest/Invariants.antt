use Rattle.std.proofs.Common.{ℤ, List, [], ◌≡◌, ◌<◌, ◌≤◌, ◌+◌, ◌*◌, length}
use Rattle.code_laws.specs.Orbits.{orbit}
use Rattle.file_laws.specs.MapOfFile.{signed_at}
use Rattle.pemb_file.specs.Served.{contents_of_view}
use Rattle.navigate.specs.FirstEdges.{edges_in}
use Rattle.navigate.specs.Least.{least, smallest_of}
use Rattle.navigate.specs.OrbitWalk.{contents_in, edge_names, positions_left, rank_price}
use Rattle.navigate.specs.Ranked.{IsRankOf, AreRanksOf}
use Rattle.navigate.proofs.Turning.{IsTurned}
use Rattle.navigate.proofs.search.edges_from_smallest.Given as goal

abbrev pub invariant-loop-names : goal.invariant-loop-names
invariant-loop-names g l =
    let m = contents_of_view l.fn.served in
    record {
      map : contents_in l.walk ≡ m;
      names : edge_names l.walk ≡ edge_names l.initial.walk;
      kind : l.walk.kind ≡ l.kind;
      within : l.best.0 < length m.code.a;
      edge : IsRankOf (edge_names l.walk) l.best.1 (signed_at m l.best.0);
      least_left : least m l.best.0 (positions_left l.walk) ≡ smallest_of m l.kind l.p;
      ranks : (ds : List ℤ) × IsTurned (signed_at m) (orbit m.code l.kind l.p) l.best.0 l.before ds (positions_left l.walk) × AreRanksOf (edge_names l.walk) l.ranks.items ds;
      none : edges_in l.edges ≡ [];
      many : l.fn.steps + length l.ranks.items ≤ l.steps;
      paid : l.steps + rank_price m * length (positions_left l.walk) ≤ l.fn.steps + rank_price m * length (orbit m.code l.kind l.p);
    }

abbrev pub decreases-loop-names : goal.decreases-loop-names
decreases-loop-names g l = length (positions_left l.walk)
