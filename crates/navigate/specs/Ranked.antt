-- Signed edges by the places of their ids in the list of ids that rises.
use Rattle.std.specs.Prelude.{⊤, ◌≡◌, ◌<◌, ◌+◌, ℕ, ℤ, List, [], ◌∷◌, Bool, IsTrue, nat_lt, ◌==◌, ◌&&◌, ◌||◌, not, length, slice_index}
use Rattle.topo_base.specs.SignedEdge.{edge_of, is_forward}
use Rattle.topo_base.specs.declared.id.TheConstants.{LARGEST_ID}
use Rattle.id_names.specs.Names.{is_id}
use Rattle.id_names.specs.RisingNames.{RisingNames, ids_by_number, id_at}
use Rattle.navigate.specs.declared.ranked.RankedEdge.{RankedEdge}

-- the place of the signed edge's id in these names, and its direction
pub record IsRankOf (names : RisingNames) (ranked : RankedEdge) (d : ℤ) : Type 0 where
  pub id : id_at names ranked.rank ≡ edge_of d
  pub within : ranked.rank < length (ids_by_number names)
  pub direction : ranked.is_forward ≡ is_forward d
  pub in_range : IsTrue (is_id (LARGEST_ID + 1) (edge_of d))

-- the ranks of these signed edges, one by one
abbrev pub AreRanksOf : RisingNames → List RankedEdge → List ℤ → Type 0
AreRanksOf names [] [] = ⊤
AreRanksOf names [] (d ∷ ds) = ⊥
AreRanksOf names (r ∷ rs) [] = ⊥
AreRanksOf names (r ∷ rs) (d ∷ ds) = IsRankOf names r d × AreRanksOf names rs ds

-- the low part of the id at a rank
abbrev pub low_of : RisingNames → RankedEdge → ℕ
low_of names ranked = slice_index names.lows ranked.rank

-- the order of signed edges, by their ranks
abbrev pub ranks_before : RankedEdge → RankedEdge → Bool
ranks_before d e = nat_lt d.rank e.rank || ((d.rank == e.rank) && d.is_forward && not e.is_forward)
