-- The component of a dart has the darts of the component of its signed edge.
use Rattle.std.proofs.Common.{◌≡◌, ℕ, ◌*◌, ◌<◌, ◌↔◌, true, List, length}
use Rattle.topo_base.specs.SignedEdge.{reverse}
use Rattle.orbits.proofs.Carried.{component_listed}
use Rattle.plane_model.specs.Sets.{has_edge}
use Rattle.plane_model.specs.PlaneMap.{signed_edges, turn}
use Rattle.plane_model.specs.Component.{component}
use Rattle.plane_model.proofs.RotationOrbits.{whole_rotation}
use Rattle.plane_model.proofs.SetLaws.{same_edges}
use Rattle.rotation_check.specs.Darts.{RotationRows, IsRotation, map_of_rotation, signed_edge}
use Rattle.spanning_pair.specs.Darts as darts
use Rattle.spanning_pair.specs.Darts.{reverse_dart, InComponent}
use Rattle.spanning_pair.specs.Rotations.{next_dart, node_row, AreComponentStarts}
use Rattle.spanning_pair.specs.Tours.{AreStarts}
use Rattle.spanning_pair.proofs.Components.{component_below}
use Rattle.spanning_pair.proofs.RotationDarts.{own_rows, signed_names, reverse_carried, turn_carried, numbered_system}

module _ (r : RotationRows) (is : IsRotation r) where
  -- a dart is in the component of another exactly where its signed edge is in that of the other's
  pub same_component : (start dart : ℕ) → start < 2 * length r.edges → dart < 2 * length r.edges
      → InComponent (next_dart r) start dart ↔ (has_edge (component (map_of_rotation r) (signed_edge r.edges start)) (signed_edge r.edges dart) ≡ true)
  same_component start dart h k =
      component_listed same_edges (λ k. k < 2 * length r.edges) (signed_edges (map_of_rotation r)) (signed_edge r.edges) reverse_dart (darts.turn (next_dart r)) reverse (turn (map_of_rotation r))
      (signed_names r is) (reverse_carried r is) (turn_carried r is) (whole_rotation (own_rows r) is.rotation) start dart h k

  pub to_component : (start dart : ℕ) → start < 2 * length r.edges → InComponent (next_dart r) start dart → has_edge (component (map_of_rotation r) (signed_edge r.edges start)) (signed_edge r.edges dart) ≡ true
  to_component start dart h c = (same_component start dart h (component_below (length r.edges) (next_dart r) (node_row r) (numbered_system r is).rotation start dart h c)).0 c

  pub from_component : (start dart : ℕ) → start < 2 * length r.edges → dart < 2 * length r.edges → has_edge (component (map_of_rotation r) (signed_edge r.edges start)) (signed_edge r.edges dart) ≡ true
      → InComponent (next_dart r) start dart
  from_component start dart h k on = (same_component start dart h k).1 on

  -- starts of components are starts of those of darts
  pub dart_starts : (starts : List ℕ) → AreComponentStarts r starts → AreStarts (length r.edges) (next_dart r) starts
  dart_starts starts are = record {
    below = are.below;
    apart = λ i j h k c. are.apart i j h k (to_component _ _ (are.below i h) c);
    each = λ d h. let s = are.each d h in (s.0, s.1, from_component _ d (are.below s.0 s.1) h s.2);
  }
