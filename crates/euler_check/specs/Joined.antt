-- Rings that are joined by edges.
use Rattle.std.specs.Prelude.{◌≡◌, ℕ, ◌*◌, ◌<◌, ◌↔◌, IsTrue, List, length, slice_index}
use Rattle.disjoint_sets.specs.Sets.{AreSets}
use Rattle.plane_model.specs.Sets.{has_edge}
use Rattle.plane_model.specs.Component.{component}
use Rattle.rotation_check.specs.Darts.{RotationRows, map_of_rotation, signed_edge}
use Rattle.euler_check.specs.Numbers.{Numbers}

-- the least ring of the set that a dart's ring is in
abbrev pub least_ring : Numbers → List ℕ → ℕ → ℕ
least_ring rings leasts dart = slice_index leasts (slice_index rings.of_darts dart)

-- sets of rings, by their numbers: two rings are in one exactly where they are in one component
pub record AreJoined (r : RotationRows) (rings : Numbers) (leasts : List ℕ) : Type 0 where
  pub sets : AreSets leasts
  pub size : length leasts ≡ rings.count
  pub same : (d e : ℕ) → d < 2 * length r.edges → e < 2 * length r.edges → (least_ring rings leasts d ≡ least_ring rings leasts e) ↔ IsTrue (has_edge (component (map_of_rotation r) (signed_edge r.edges d)) (signed_edge r.edges e))
