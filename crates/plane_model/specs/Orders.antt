-- Lists in order, and what is least in a list.
use Rattle.std.specs.Prelude.{Option, Some, None, if◌then◌else◌, ◌≡◌, ℕ, ◌≤◌, ℤ, Bool, true, ◌&&◌, ◌==◌, nat_lt, nat_le, IsTrue, IsFalse, List, [], ◌∷◌, filter, length}
use Rattle.std.specs.List.{list_all}
use Rattle.orbits.specs.Walks as walks
use Rattle.orbits.specs.Parts as parts
use Rattle.topo_base.specs.SignedEdge.{comes_before, same_edge}
use Rattle.plane_model.specs.Rows.{Rows}
use Rattle.plane_model.specs.PlaneMap.{smallest}
use Rattle.plane_model.specs.Sets.{has, has_edge, is_distinct_edges}

-- no number is greater than one behind it
abbrev pub is_rising : List ℕ → Bool
is_rising [] = true
is_rising (x ∷ xs) = list_all (nat_le x) xs && is_rising xs

-- each number is below those behind it
abbrev pub is_strictly_rising : List ℕ → Bool
is_strictly_rising [] = true
is_strictly_rising (x ∷ xs) = list_all (nat_lt x) xs && is_strictly_rising xs

-- each signed edge comes before those behind it
abbrev pub is_rising_edges : List ℤ → Bool
is_rising_edges [] = true
is_rising_edges (d ∷ ds) = list_all (comes_before d) ds && is_rising_edges ds

-- how often x stands among xs
abbrev pub how_often : List ℕ → ℕ → ℕ
how_often xs x = length (filter (λ y. x == y) xs)

-- the least of xs that passes p
pub record IsLeast (p : ℕ → Bool) (xs : List ℕ) (x : ℕ) : Type 0 where
  pub there : IsTrue (has xs x)
  pub passes : IsTrue (p x)
  pub least : (y : ℕ) → IsTrue (has xs y) → IsTrue (p y) → x ≤ y

-- the smallest of ds that passes p
pub record IsSmallest (p : ℤ → Bool) (ds : List ℤ) (d : ℤ) : Type 0 where
  pub there : IsTrue (has_edge ds d)
  pub passes : IsTrue (p d)
  pub least : (e : ℤ) → IsTrue (has_edge ds e) → IsTrue (p e) → IsFalse (comes_before e d)

-- a step takes the signed edges of a list to ones of it, no two to one
abbrev pub Permutes : List ℤ → (ℤ → ℤ) → Type 0
Permutes us step = walks.Permutes (λ d. IsTrue (has_edge us d)) step

-- whether a walk by steps from d comes to the first signed edge within n steps
abbrev pub returns : ℕ → (ℤ → ℤ) → ℤ → ℤ → Bool
returns n step first d = walks.returns same_edge n step first d

-- sets of signed edges, one for each, which has it, with no signed edge twice: two that share one have the same
abbrev pub IsPartition : List ℤ → (ℤ → List ℤ) → Type 0
IsPartition us part = parts.IsPartition same_edge us part

-- each signed edge is in the set of one of the names, and in no other's
abbrev pub AreNames : List ℤ → (ℤ → List ℤ) → List ℤ → Type 0
AreNames us part names = parts.AreNames same_edge us part names

-- the first number that equals the one behind it
abbrev pub first_pair : List ℕ → Option ℕ
first_pair [] = None
first_pair (x ∷ []) = None
first_pair (x ∷ y ∷ ys) = if x == y then Some x else first_pair (y ∷ ys)

-- the one list has each signed edge of the other, and none twice
pub record IsAllOf (us ds : List ℤ) : Type 0 where
  pub same : (d : ℤ) → has_edge ds d ≡ has_edge us d
  pub once : IsTrue (is_distinct_edges ds)
  pub as_many : length ds ≡ length us

-- the rows of nodes and edges alone
abbrev pub nodes_and_edges : Rows → Rows
nodes_and_edges t = record { nodes = t.nodes; edges = t.edges; faces = []; regions = []; members = [] }

-- a part's name, its smallest signed edge, is that of each in it, and of none outside it
pub record IsNamed (us : List ℤ) (part : ℤ → List ℤ) : Type 0 where
  pub same : (d x : ℤ) → IsTrue (has_edge us d) → IsTrue (has_edge (part d) x) → smallest x (part x) ≡ smallest d (part d)
  pub apart : (d x : ℤ) → IsTrue (has_edge us d) → IsTrue (has_edge us x) → smallest x (part x) ≡ smallest d (part d) → IsTrue (has_edge (part d) x)
