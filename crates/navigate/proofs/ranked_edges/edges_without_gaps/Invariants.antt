use Rattle.std.proofs.Common.{ℤ, List, ◌≡◌, ◌++◌, drop, length}
use Rattle.id_names.specs.Views.{names_in}
use Rattle.navigate.specs.Several.{edges_in}
use Rattle.navigate.specs.Ranked.{AreRanksOf}
use Rattle.navigate.proofs.ranked_edges.edges_without_gaps.Given as goal

abbrev pub invariant-loop-edge : goal.invariant-loop-edge
invariant-loop-edge l = record {
  left : (ds : List ℤ) → AreRanksOf (names_in l.names) l.ranks ds → (es : List ℤ) × (ds ≡ edges_in l.edges ++ es) × AreRanksOf (names_in l.names) (drop l.edge-index l.ranks) es;
  count : length (edges_in l.edges) ≡ l.edge-index;
}
