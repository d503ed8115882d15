-- What a rotation says of its rows with some faces.
use Rattle.std.proofs.Common.{◌≡◌, ℕ, true, List, [], ◌∷◌, map, refl, sym, ◌∙◌}
use Rattle.std.specs.Prelude.{nat_lt}
use Rattle.std.specs.List.{list_all}
use Rattle.plane_model.specs.declared.rows.EdgeRow.{EdgeRow}
use Rattle.plane_model.specs.PlaneMap.{signed_edges, ring}
use Rattle.plane_model.specs.Component.{component}
use Rattle.plane_model.specs.Orders.{is_rising_edges, IsPartition}
use Rattle.plane_model.proofs.Sorting.{rising-all, rising_strictly}
use Rattle.plane_model.proofs.SortedEdges.{signed_edges_rise}
use Rattle.plane_model.proofs.RotationOrbits.{signed_apart}
use Rattle.plane_model.proofs.ComponentParts.{ring_partition, component_partition}
use Rattle.rotation_check.specs.Darts.{RotationRows, IsRotation, map_of_rotation}
use Rattle.islands.specs.Placed.{rows_with_faces}

positive_ids : (edges : List EdgeRow) → list_all (λ (e : EdgeRow). nat_lt 0 e.id) edges ≡ list_all (nat_lt 0) (map (λ (e : EdgeRow). e.id) edges)
positive_ids [] = refl
positive_ids (e ∷ edges) = rw (positive_ids edges) refl

pub edges_rise : (r : RotationRows) → IsRotation r → is_rising_edges (signed_edges (map_of_rotation r)) ≡ true
edges_rise r is =
    let ids : List ℕ = map (λ (e : EdgeRow). e.id) r.edges in
    signed_edges_rise (map_of_rotation r) (rising_strictly ids is.edges) (rising-all (nat_lt 0) ids ∙ sym (positive_ids r.edges) ∙ is.ids)

pub ring_parts : (r : RotationRows) → IsRotation r → IsPartition (signed_edges (map_of_rotation r)) (ring (map_of_rotation r))
ring_parts r is = ring_partition (rows_with_faces r []) is.rotation

pub component_parts : (r : RotationRows) → IsRotation r → IsPartition (signed_edges (map_of_rotation r)) (component (map_of_rotation r))
component_parts r is = component_partition (rows_with_faces r []) is.rotation (signed_apart (map_of_rotation r) is.rotation)
