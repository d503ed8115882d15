-- How many nodes, edges and rings each component has.
use Rattle.std.specs.Prelude.{◌≡◌, ℕ, zero, suc, ◌*◌, ◌<◌, ℤ, Bool, false, ◌==◌, nat_le, if◌then◌else◌, List, length, Option, Some, None, slice_index}
use Rattle.topo_base.specs.SignedEdge.{edge_of}
use Rattle.topo_base.specs.declared.refusal.Refusal.{Refusal}
use Rattle.topo_base.specs.declared.refusal.Refusal.TheVariants as refusal
use Rattle.plane_model.specs.declared.rows.EdgeRow.{EdgeRow}
use Rattle.plane_model.specs.PlaneMap.{PlaneMap, origin}
use Rattle.plane_model.specs.Component.{component, node_count, edge_count, ring_count}
use Rattle.rotation_check.specs.Darts.{RotationRows, map_of_rotation, node_id, signed_edge}
use Rattle.euler_check.specs.Marks.{number_at}
use Rattle.euler_check.specs.Numbers.{Numbers, ArePartNumbers}
use Rattle.euler_check.specs.declared.euler_counts.EulerCounts.{EulerCounts}

-- For each label, the number of the part of a dart that has it, or none where none of the first k darts has it.
pub record AreLabelParts (parts : Numbers) (Has : ℕ → ℕ → Type 0) (labels k : ℕ) (numbers : List (Option ℕ)) : Type 0 where
  pub size : length numbers ≡ labels
  pub none : (x d : ℕ) → x < labels → d < k → number_at numbers x ≡ None → Has x d → ⊥
  pub some : (x part : ℕ) → x < labels → number_at numbers x ≡ Some part → (d : ℕ) × (d < k) × Has x d × (slice_index parts.of_darts d ≡ part)

-- a dart has this number
abbrev pub HasNumber : Numbers → ℕ → ℕ → Type 0
HasNumber numbers x d = slice_index numbers.of_darts d ≡ x

-- a dart leaves the node of this row
abbrev pub LeavesRow : RotationRows → ℕ → ℕ → Type 0
LeavesRow r row d = origin (map_of_rotation r) (signed_edge r.edges d) ≡ node_id r.nodes row

-- how many numbers below n pass
unfoldable pub count_below : ℕ → (ℕ → Bool) → ℕ
count_below zero p = 0
count_below (suc n) p = let before = count_below n p in if p n then suc before else before

-- whether there is a part, and it has this number
abbrev pub is_in : ℕ → Option ℕ → Bool
is_in x None = false
is_in x (Some part) = part == x

-- how many of the first n are in each of so many parts
pub record AreCounted (parts : ℕ) (part : ℕ → Option ℕ) (n : ℕ) (counts : List ℕ) : Type 0 where
  pub size : length counts ≡ parts
  pub counted : (x : ℕ) → x < parts → slice_index counts x ≡ count_below n (λ i. is_in x (part i))

-- the count of each component, by its number
pub record AreCountsOf (r : RotationRows) (how_many : PlaneMap → List ℤ → ℕ) (components : Numbers) (counts : List ℕ) : Type 0 where
  pub size : length counts ≡ components.count
  pub counted : (d : ℕ) → d < 2 * length r.edges → slice_index counts (slice_index components.of_darts d) ≡ how_many (map_of_rotation r) (component (map_of_rotation r) (signed_edge r.edges d))

-- the numbers of components, and the counts of each
pub record AreEulerCounts (c : EulerCounts) : Type 0 where
  pub components : ArePartNumbers c.rotation.now.edges (component (map_of_rotation c.rotation.now)) c.components.now
  pub nodes : AreCountsOf c.rotation.now node_count c.components.now c.nodes.items
  pub edges : AreCountsOf c.rotation.now edge_count c.components.now c.edges.items
  pub rings : AreCountsOf c.rotation.now ring_count c.components.now c.rings.items

-- the id of the edge of a dart
abbrev pub edge_id : List EdgeRow → ℕ → ℕ
edge_id edges dart = edge_of (signed_edge edges dart)

-- the dart whose edge has the lesser id, where the one may be none
abbrev pub lesser : List EdgeRow → Option ℕ → ℕ → ℕ
lesser edges None dart = dart
lesser edges (Some other) dart = if nat_le (edge_id edges other) (edge_id edges dart) then other else dart

-- the refusal of a component, given by an edge of it
abbrev pub euler_refusal : PlaneMap → ℤ → Refusal
euler_refusal m d = let ds = component m d in refusal.Euler (edge_of d) (node_count m ds) (edge_count m ds) (ring_count m ds)
