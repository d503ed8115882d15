use Rattle.std.proofs.Common.{ℤ, List, ◌≡◌, ◌≤◌, ◌+◌, ◌-◌, ◌*◌, ◌++◌, length}
use Rattle.navigate.specs.OrbitWalk.{contents_in, edge_names, rest, rank_price}
use Rattle.navigate.specs.Ranked.{AreRanksOf}
use Rattle.navigate.specs.declared.several.TheConstants.{SEVERAL}
use Rattle.navigate.proofs.orbit_walk.OrbitWalk.several_ranked.Given as goal

abbrev pub invariant-loop-self : goal.invariant-loop-self
invariant-loop-self g l = record {
  contents : contents_in l.self ≡ contents_in l.fn.self;
  names : edge_names l.self ≡ edge_names l.fn.self;
  gives : (given : List ℤ) × (rest l.fn.self ≡ given ++ rest l.self) × AreRanksOf (edge_names l.fn.self) l.ranks.items given;
  least : l.fn.steps + length l.ranks.items ≤ l.steps;
  cost : l.steps ≤ l.fn.steps + rank_price (contents_in l.fn.self) * length l.ranks.items;
}

abbrev pub decreases-loop-self : goal.decreases-loop-self
decreases-loop-self g l = SEVERAL - length l.ranks.items
