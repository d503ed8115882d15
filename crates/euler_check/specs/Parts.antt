-- The rings and the components of a rotation, by number, and what is first wrong with them.
use Rattle.std.specs.Prelude.{◌≡◌, IsTrue, [], length, Option}
use Rattle.topo_base.specs.declared.refusal.Refusal.{Refusal}
use Rattle.plane_model.specs.PlaneMap.{ring, rings}
use Rattle.plane_model.specs.Component.{component, components, is_plane}
use Rattle.plane_model.specs.Faces.{is_labelled}
use Rattle.plane_model.specs.Faults.{euler_fault}
use Rattle.rotation_check.specs.Darts.{RotationRows, map_of_rotation}
use Rattle.euler_check.specs.Numbers.{Numbers, ArePartNumbers}

-- the numbers of the rings and of the components of darts
pub record PartNumbers : Type 0 where
  pub rings : Numbers
  pub components : Numbers

-- each ring of the rotation has one face, its components are plane, and these are the numbers of both
pub record AreParts (r : RotationRows) (p : PartNumbers) : Type 0 where
  pub labelled : IsTrue (is_labelled (map_of_rotation r))
  pub plane : IsTrue (is_plane (map_of_rotation r))
  pub ring_numbers : ArePartNumbers r.edges (ring (map_of_rotation r)) p.rings
  pub as_many_rings : p.rings.count ≡ length (rings (map_of_rotation r))
  pub component_numbers : ArePartNumbers r.edges (component (map_of_rotation r)) p.components
  pub as_many_components : p.components.count ≡ length (components (map_of_rotation r))

-- the first fault of rings, or else of components
abbrev pub parts_fault : RotationRows → Option Refusal
parts_fault r = euler_fault (record { nodes = r.nodes; edges = r.edges; faces = []; regions = []; members = [] })
