-- What is found of a position's edge.
use Rattle.std.specs.Prelude.{ℕ, ◌≡◌, ◌<◌, if◌then◌else◌, length}
use Rattle.parens.specs.Matching.{is_open, mate_of}
use Rattle.code_laws.specs.Code.{Code, is_tree, parens, place}
use Rattle.code_laws.specs.Numbers.{edge_count, edge_of}
use Rattle.turan_code.specs.declared.view.Seen.{Seen}

-- the kind, the place among the parentheses of that kind, the place that opens its pair, and the edge of a position
pub record IsSeen (c : Code) (p : ℕ) (seen : Seen) : Type 0 where
  pub tree : seen.tree ≡ is_tree c p
  pub place : seen.place ≡ place c seen.tree p
  pub place_within : seen.place < length (parens c seen.tree)
  pub first : seen.is_first ≡ is_open (parens c seen.tree) seen.place
  pub opening : seen.opening ≡ (if is_open (parens c seen.tree) seen.place then seen.place else mate_of (parens c seen.tree) seen.place)
  pub edge : seen.edge ≡ edge_of c p
  pub edge_within : seen.edge < edge_count c
