use Rattle.std.proofs.Common.{ℤ, List, ◌≡◌, ◌≤◌, ◌+◌, ◌*◌, length}
use Rattle.bit_words.specs.Digits.{digits}
use Rattle.id_names.specs.Views.{ids_of, names_in}
use Rattle.navigate.specs.FirstEdges.{edges_in}
use Rattle.navigate.specs.Ranked.{AreRanksOf}
use Rattle.navigate.proofs.RankLists.{LeftRanks}
use Rattle.navigate.proofs.ranked_edges.put_down.Given as goal

abbrev pub invariant-loop-left : goal.invariant-loop-left
invariant-loop-left g l = record {
  left : (ds : List ℤ) → AreRanksOf (names_in l.names) l.ranks ds → LeftRanks (names_in l.names) l.left (edges_in l.edges) (edges_in l.initial.edges) ds;
  count : length (edges_in l.edges) + length l.left ≡ length (edges_in l.initial.edges) + length l.ranks;
  grows : l.initial.steps ≤ l.steps;
  cost : l.steps + (3 * digits (length (ids_of l.names) + 2) + 18) * length l.left ≤ l.initial.steps + (3 * digits (length (ids_of l.names) + 2) + 18) * length l.ranks;
}

abbrev pub decreases-loop-left : goal.decreases-loop-left
decreases-loop-left g l = length l.left
