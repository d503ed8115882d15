-- The darts of a rotation: the next dart of each, and the row of the node that it leaves.
use Rattle.std.specs.Prelude.{◌≡◌, ℕ, ◌+◌, ◌*◌, ◌<◌, suc, ℤ, ◌==◌, IsTrue, if◌then◌else◌, List, [], ◌∷◌, map, length}
use Rattle.topo_base.specs.SignedEdge.{edge_of, is_forward}
use Rattle.plane_model.specs.declared.rows.EdgeRow.{EdgeRow}
use Rattle.plane_model.specs.Component.{component}
use Rattle.plane_model.specs.PlaneMap.{next, origin}
use Rattle.plane_model.specs.Sets.{has_edge}
use Rattle.rotation_check.specs.Darts.{RotationRows, map_of_rotation, signed_edge}
use Rattle.spanning_pair.specs.Tours.{number_at}

-- where x first stands in a list
unfoldable pub place_of : List ℕ → ℕ → ℕ
place_of [] x = 0
place_of (y ∷ ys) x = let more = place_of ys x in if x == y then 0 else suc more

-- the dart of a signed edge
unfoldable pub dart_of : List EdgeRow → ℤ → ℕ
dart_of edges d = let place = place_of (map (λ e. e.id) edges) (edge_of d) in if is_forward d then 2 * place else 2 * place + 1

-- the dart after a dart round the face on its left
unfoldable pub next_dart : RotationRows → ℕ → ℕ
next_dart r dart = dart_of r.edges (next (map_of_rotation r) (signed_edge r.edges dart))

-- the row of the node that a dart leaves
unfoldable pub node_row : RotationRows → ℕ → ℕ
node_row r dart = place_of (map (λ n. n.id) r.nodes) (origin (map_of_rotation r) (signed_edge r.edges dart))

-- the component of the one dart has the other
abbrev pub AreConnected : RotationRows → ℕ → ℕ → Type 0
AreConnected r start dart = IsTrue (has_edge (component (map_of_rotation r) (signed_edge r.edges start)) (signed_edge r.edges dart))

-- darts, exactly one of which belongs to each component
pub record AreComponentStarts (r : RotationRows) (starts : List ℕ) : Type 0 where
  pub below : (i : ℕ) → i < length starts → number_at starts i < 2 * length r.edges
  pub apart : (i j : ℕ) → i < length starts → j < length starts → AreConnected r (number_at starts i) (number_at starts j) → i ≡ j
  pub each : (d : ℕ) → d < 2 * length r.edges → (i : ℕ) × (i < length starts) × AreConnected r (number_at starts i) d
