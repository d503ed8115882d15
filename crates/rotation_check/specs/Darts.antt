-- Darts: signed edges, by the place of the edge's row and the direction.
use Rattle.std.specs.Prelude.{◌≡◌, ℕ, ◌+◌, ◌-◌, ◌*◌, ◌/◌, ◌%◌, ◌<◌, ◌≤◌, ℤ, pos, neg_ℤ, ◌==◌, IsTrue, if◌then◌else◌, List, [], length, map, slice_index, slice_get, unwrap_or, option_map, nat_lt, nat_le}
use Rattle.std.specs.List.{list_all}
use Rattle.topo_base.specs.declared.id.TheConstants.{LARGEST_ID}
use Rattle.plane_model.specs.declared.rows.EdgeRow.{EdgeRow}
use Rattle.plane_model.specs.declared.rows.NodeRow.{NodeRow}
use Rattle.plane_model.specs.Rows.{Rows}
use Rattle.plane_model.specs.InRange.{is_in_range}
use Rattle.plane_model.specs.Sets.{is_distinct}
use Rattle.plane_model.specs.PlaneMap.{PlaneMap, map_of, no_edge, next, origin}
use Rattle.plane_model.specs.Rotation.{is_rotation}

-- the rows that a rotation stands for
pub record RotationRows : Type 0 where
  pub nodes : List NodeRow
  pub edges : List EdgeRow

-- those of all rows of tables
abbrev pub rotation_rows : Rows → RotationRows
rotation_rows t = record { nodes = t.nodes; edges = t.edges }

abbrev pub map_of_rotation : RotationRows → PlaneMap
map_of_rotation r = map_of (record { nodes = r.nodes; edges = r.edges; faces = []; regions = []; members = [] })

-- the signed edge of a dart
abbrev pub signed_edge : List EdgeRow → ℕ → ℤ
signed_edge edges dart = let id = (unwrap_or (slice_get edges (dart / 2)) no_edge).id in if dart % 2 == 0 then pos id else neg_ℤ (pos id)

-- the dart of a signed edge
pub record IsDartOf (edges : List EdgeRow) (d : ℤ) (dart : ℕ) : Type 0 where
  pub within : dart < 2 * length edges
  pub is : signed_edge edges dart ≡ d

-- the dart of the same edge the other way
abbrev pub reverse_dart : ℕ → ℕ
reverse_dart dart = if dart % 2 == 0 then dart + 1 else dart - 1

-- the id of the node in a row
abbrev pub node_id : List NodeRow → ℕ → ℕ
node_id nodes row = unwrap_or (option_map (λ n. n.id) (slice_get nodes row)) 0

-- rows whose ids are distinct and in range, and that are a rotation system
pub record IsRotation (r : RotationRows) : Type 0 where
  pub nodes : IsTrue (is_distinct (map (λ n. n.id) r.nodes))
  pub edges : IsTrue (is_distinct (map (λ e. e.id) r.edges))
  -- ids are from 1 on, so that an edge's two directions differ
  pub ids : IsTrue (list_all (λ e. nat_lt 0 e.id) r.edges)
  pub largest : IsTrue (list_all (λ e. nat_le e.id LARGEST_ID) r.edges)
  pub rotation : IsTrue (is_rotation (map_of_rotation r))
  pub few_edges : length r.edges ≤ 16_777_216
  pub few_nodes : length r.nodes ≤ 16_777_216

-- the next dart of each dart
abbrev pub AreNexts : List EdgeRow → List ℕ → Type 0
AreNexts edges nexts =
    (length nexts ≡ 2 * length edges)
    × ((dart : ℕ) → dart < 2 * length edges → (slice_index nexts dart < 2 * length edges)
    × (signed_edge edges (slice_index nexts dart) ≡ next (map_of_rotation (record { nodes = []; edges = edges })) (signed_edge edges dart)))

-- the row of the node that each dart leaves
abbrev pub AreNodes : List NodeRow → List EdgeRow → List ℕ → Type 0
AreNodes nodes edges rows =
    (length rows ≡ 2 * length edges)
    × ((dart : ℕ) → dart < 2 * length edges → (slice_index rows dart < length nodes)
    × (node_id nodes (slice_index rows dart) ≡ origin (map_of_rotation (record { nodes = []; edges = edges })) (signed_edge edges dart)))

-- the next darts and the rows of nodes of tables whose nodes and edges have distinct ids
pub record AreDarts (t : Rows) (nexts rows : List ℕ) : Type 0 where
  pub in_range : IsTrue (is_in_range t)
  pub node_ids : IsTrue (is_distinct (map (λ n. n.id) t.nodes))
  pub edge_ids : IsTrue (is_distinct (map (λ e. e.id) t.edges))
  pub next_darts : AreNexts t.edges nexts
  pub node_rows : AreNodes t.nodes t.edges rows
