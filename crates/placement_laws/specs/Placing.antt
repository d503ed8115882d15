-- What makes some rings the outer rings of a placed map: one for each component, in an order in which each has its
-- place.
use Rattle.std.specs.Prelude.{◌≡◌, ◌<◌, ◌⊎◌, ℕ, ℤ, IsTrue, IsFalse, List, map, slice_get, Some, nat_lt}
use Rattle.std.specs.List.{list_all}
use Rattle.plane_model.specs.Rows.{Rows}
use Rattle.plane_model.specs.Sets.{has, has_edge, is_distinct, is_distinct_edges}
use Rattle.plane_model.specs.PlaneMap.{PlaneMap, map_of, signed_edges, side, rings}
use Rattle.plane_model.specs.Rotation.{is_rotation}
use Rattle.plane_model.specs.Component.{component}
use Rattle.plane_model.specs.Faces.{is_labelled, outer_rings, outer_ring}
use Rattle.plane_model.specs.Lists.{shell}

-- what the laws on rings, components and faces ask of tables: a rotation whose rings have one face each
pub record IsLabelledRotation (t : Rows) : Type 0 where
  pub edges : IsTrue (is_distinct (map (λ e. e.id) t.edges))
  -- ids are from 1 on, so that an edge's two directions differ
  pub ids : IsTrue (list_all (λ e. nat_lt 0 e.id) t.edges)
  pub faces : IsTrue (is_distinct (map (λ f. f.id) t.faces))
  pub rotation : IsTrue (is_rotation (map_of t))
  pub labelled : IsTrue (is_labelled (map_of t))

-- a ring that is no start has this face on its left, and is in the component of a start before this place
pub record IsShellOfEarlier (m : PlaneMap) (starts : List ℤ) (place face : ℕ) : Type 0 where
  pub shell : ℤ
  pub is_ring : IsTrue (has_edge (rings m) shell)
  pub no_start : IsFalse (has_edge starts shell)
  pub its_face : side m shell ≡ face
  pub earlier : ℕ
  pub is_earlier : earlier < place
  pub start : ℤ
  pub its_start : slice_get starts earlier ≡ Some start
  pub within : IsTrue (has_edge (component m start) shell)

-- some rings, the starts, are one for each component, the other rings are one for each face other than 0, and each
-- start has its place before those inside
pub record IsPlacing (m : PlaneMap) (starts : List ℤ) : Type 0 where
  -- the starts are rings, and each component has one
  pub among : (r : ℤ) → IsTrue (has_edge starts r) → IsTrue (has_edge (rings m) r)
  pub apart : IsTrue (is_distinct_edges starts)
  pub each : (d : ℤ) → IsTrue (has_edge (signed_edges m) d) → (r : ℤ) × IsTrue (has_edge starts r) × IsTrue (has_edge (component m r) d)
  pub one : (r q : ℤ) → IsTrue (has_edge starts r) → IsTrue (has_edge starts q) → IsTrue (has_edge (component m r) q) → r ≡ q
  -- the other rings are shells, one of each face other than 0
  pub faced : (q : ℤ) → IsTrue (has_edge (rings m) q) → IsFalse (has_edge starts q) → IsTrue (has m.faces (side m q))
  pub shells : (f : ℕ) → IsTrue (has m.faces f) → (q : ℤ) × IsTrue (has_edge (rings m) q) × IsFalse (has_edge starts q) × (side m q ≡ f)
  pub one_shell : (q p : ℤ) → IsTrue (has_edge (rings m) q) → IsFalse (has_edge starts q) → IsTrue (has_edge (rings m) p) → IsFalse (has_edge starts p) → side m q ≡ side m p → q ≡ p
  -- each start lies on face 0, or on a face whose shell is in the component of an earlier start
  pub order : (place : ℕ) (r : ℤ) → slice_get starts place ≡ Some r → (side m r ≡ 0) ⊎ IsShellOfEarlier m starts place (side m r)

-- the shell of a face is in the component of an outer ring before this place
pub record LiesInEarlier (m : PlaneMap) (place face : ℕ) : Type 0 where
  pub ring : ℤ
  pub its_shell : shell m face ≡ Some ring
  pub start : ℤ
  pub its_start : outer_ring m ring ≡ Some start
  pub earlier : ℕ
  pub its_place : slice_get (outer_rings m) earlier ≡ Some start
  pub is_earlier : earlier < place
