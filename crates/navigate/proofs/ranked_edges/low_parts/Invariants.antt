use Rattle.std.proofs.Common.{◌≡◌, ◌≤◌, ◌+◌, ◌*◌, ◌++◌, map, drop, length}
use Rattle.id_names.specs.Views.{names_in}
use Rattle.navigate.specs.Ranked.{low_of}
use Rattle.navigate.proofs.ranked_edges.low_parts.Given as goal

abbrev pub invariant-loop-ranked : goal.invariant-loop-ranked
invariant-loop-ranked g l = record {
  lows : map (low_of (names_in l.names)) l.ranks ≡ l.lows.items ++ map (low_of (names_in l.names)) (drop l.ranked-index l.ranks);
  count : length l.lows.items ≡ l.ranked-index;
  grows : l.fn.steps ≤ l.steps;
  cost : l.steps ≤ l.fn.steps + 2 * l.ranked-index;
}
