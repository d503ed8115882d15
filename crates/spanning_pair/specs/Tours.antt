-- Walks in lists, and the tour of all components.
use Rattle.std.specs.Prelude.{◌≡◌, ℕ, ◌+◌, ◌*◌, ◌/◌, ◌<◌, ◌≤◌, ◌⊎◌, List, Bool, true, false, length, slice_index, slice_index_or}
use Rattle.spanning_pair.specs.Darts.{IsDartSystem, InComponent}
use Rattle.spanning_pair.specs.Walks.{IsTreeWalk}

abbrev pub number_at : List ℕ → ℕ → ℕ
number_at xs p = slice_index xs p

abbrev pub flag_at : List Bool → ℕ → Bool
flag_at bs p = slice_index_or bs p false

-- a rotation system whose nodes are numbers below `nodes`
pub record IsNumberedSystem (edges nodes : ℕ) (next node : ℕ → ℕ) : Type 0 where
  pub node_below : (d : ℕ) → d < 2 * edges → node d < nodes
  pub rotation : IsDartSystem edges next node

-- no edge and no node of the component of the start is marked
pub record AreClean (next node : ℕ → ℕ) (start : ℕ) (seen visited : List Bool) : Type 0 where
  pub seen_none : (d : ℕ) → InComponent next start d → flag_at seen (d / 2) ≡ false
  pub visited_none : (d : ℕ) → InComponent next start d → flag_at visited (node d) ≡ false

-- edges and nodes that are marked were marked before or are of the component of the start
pub record AreMarkedInComponent (next node : ℕ → ℕ) (start : ℕ) (seen0 visited0 seen visited : List Bool) : Type 0 where
  pub seen_by : (e : ℕ) → flag_at seen e ≡ true → (flag_at seen0 e ≡ true) ⊎ ((d : ℕ) × InComponent next start d × (d / 2 ≡ e))
  pub visited_by : (v : ℕ) → flag_at visited v ≡ true → (flag_at visited0 v ≡ true) ⊎ ((d : ℕ) × InComponent next start d × (node d ≡ v))

-- the walk of the component of the start was appended
pub record IsWalkAppended (next node : ℕ → ℕ) (start : ℕ) (darts0 : List ℕ) (tree0 first0 : List Bool) (darts : List ℕ) (tree first : List Bool) : Type 0 where
  pub longer : length darts0 ≤ length darts
  pub tree_len : length tree ≡ length darts
  pub first_len : length first ≡ length darts
  pub darts_kept : (p : ℕ) → p < length darts0 → number_at darts p ≡ number_at darts0 p
  pub tree_kept : (p : ℕ) → p < length darts0 → flag_at tree p ≡ flag_at tree0 p
  pub first_kept : (p : ℕ) → p < length darts0 → flag_at first p ≡ flag_at first0 p
  pub walk : IsTreeWalk next node start (number_at darts) (flag_at tree) (flag_at first) (length darts0) (length darts)

-- exactly one start belongs to each component
pub record AreStarts (edges : ℕ) (next : ℕ → ℕ) (starts : List ℕ) : Type 0 where
  pub below : (i : ℕ) → i < length starts → number_at starts i < 2 * edges
  pub apart : (i j : ℕ) → i < length starts → j < length starts → InComponent next (number_at starts i) (number_at starts j) → i ≡ j
  pub each : (d : ℕ) → d < 2 * edges → (i : ℕ) × (i < length starts) × InComponent next (number_at starts i) d

-- The tour: the walk of the component of each start, one after another. `places` has where each begins, and the whole
-- length at its end.
pub record IsTour (edges : ℕ) (next node : ℕ → ℕ) (starts darts : List ℕ) (tree first : List Bool) (places : List ℕ) : Type 0 where
  pub tree_len : length tree ≡ length darts
  pub first_len : length first ≡ length darts
  pub places_len : length places ≡ length starts + 1
  pub begins : number_at places 0 ≡ 0
  pub ends : number_at places (length starts) ≡ length darts
  pub walks : (i : ℕ) → i < length starts → IsTreeWalk next node (number_at starts i) (number_at darts) (flag_at tree) (flag_at first) (number_at places i) (number_at places (i + 1))
  -- all darts, each once
  pub darts_len : length darts ≡ 2 * edges
  pub once : (p q : ℕ) → p < length darts → q < length darts → number_at darts p ≡ number_at darts q → p ≡ q

-- the tour, and there is no other
pub record IsTheTour (edges : ℕ) (next node : ℕ → ℕ) (starts darts : List ℕ) (tree first : List Bool) (places : List ℕ) : Type 0 where
  pub is_tour : IsTour edges next node starts darts tree first places
  pub only : (darts2 : List ℕ) (tree2 first2 : List Bool) (places2 : List ℕ) → IsTour edges next node starts darts2 tree2 first2 places2
      → (darts ≡ darts2) × (tree ≡ tree2) × (first ≡ first2) × (places ≡ places2)
