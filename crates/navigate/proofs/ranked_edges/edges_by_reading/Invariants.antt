use Rattle.std.proofs.Common.{ℤ, List, ◌≡◌, ◌≤◌, ◌+◌, ◌*◌, ◌++◌, drop, length}
use Rattle.bit_words.specs.Digits.{digits}
use Rattle.id_names.specs.Views.{ids_of, names_in}
use Rattle.navigate.specs.Several.{edges_in}
use Rattle.navigate.specs.Ranked.{AreRanksOf}
use Rattle.navigate.proofs.ranked_edges.edges_by_reading.Given as goal

abbrev pub invariant-loop-place : goal.invariant-loop-place
invariant-loop-place g l = record {
  left : (ds : List ℤ) → AreRanksOf (names_in l.names) l.ranks ds → (es : List ℤ) × (ds ≡ edges_in l.edges ++ es) × AreRanksOf (names_in l.names) (drop l.place l.ranks) es;
  count : length (edges_in l.edges) ≡ l.place;
  least : l.initial.steps + l.place ≤ l.steps;
  cost : l.steps ≤ l.initial.steps + (3 * digits (length (ids_of l.names) + 2) + 16) * l.place;
}
