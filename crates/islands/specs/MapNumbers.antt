-- The numbers of a map's rings, faces and components.
use Rattle.std.specs.Prelude.{◌≡◌, ◌<◌, ◌^◌, ℕ, Bool, List, ◌∷◌, length, map, slice_index}
use Rattle.plane_model.specs.declared.rows.EdgeRow.{EdgeRow}
use Rattle.plane_model.specs.declared.rows.FaceRow.{FaceRow}
use Rattle.plane_model.specs.PlaneMap.{PlaneMap, rings}
use Rattle.plane_model.specs.Component.{component, components}
use Rattle.plane_model.specs.Faces.{is_on_ring, is_reached}
use Rattle.rotation_check.specs.Darts.{RotationRows, signed_edge}
use Rattle.euler_check.specs.Numbers.{Numbers, ArePartNumbers}
use Rattle.placement_laws.specs.Placing.{IsLabelledRotation}
use Rattle.islands.specs.declared.numbers.NumberedMap.{NumberedMap}
use Rattle.islands.specs.Darts.{AreDartsOf}
use Rattle.islands.specs.Numbered.{AreRingNumbers, AreBelow}
use Rattle.islands.specs.Placed.{map_with_faces, rows_with_faces}
use Rattle.islands.specs.Rounds.{is_marked}

-- the rings and components of the map by their smallest darts, the ids of its faces, and the numbers of each ring's
-- face and component
pub record IsNumberedMap (r : RotationRows) (faces : List FaceRow) (numbers : Numbers) (n : NumberedMap) : Type 0 where
  pub system : IsLabelledRotation (rows_with_faces r faces)
  pub of_components : ArePartNumbers r.edges (component (map_with_faces r faces)) numbers
  pub ring_darts : AreDartsOf r.edges (rings (map_with_faces r faces)) n.rings.items
  pub component_darts : AreDartsOf r.edges (components (map_with_faces r faces)) n.components.items
  pub face_ids : n.face_ids.items ≡ (0 ∷ (map_with_faces r faces).faces)
  pub component_numbers : n.component_of.items ≡ map (slice_index numbers.of_darts) n.rings.items
  pub numbered : AreRingNumbers (map_with_faces r faces) (slice_index n.face_ids.items) n.face_of.items n.component_of.items (length n.face_ids.items)
  pub below : AreBelow n.face_of.items n.component_of.items (length n.face_ids.items) numbers.count
  pub short : length n.face_of.items < 2 ^ 32

-- each component, given by a dart, is marked at its number exactly where it is reached
abbrev pub AreReachedMarked : PlaneMap → List EdgeRow → (ℕ → ℕ) → List ℕ → List Bool → Type 0
AreReachedMarked m edges number darts reached = (k : ℕ) → k < length darts → is_marked reached (number (slice_index darts k)) ≡ is_reached m (signed_edge edges (slice_index darts k))

-- each face is marked at its number exactly where it is on a ring
abbrev pub AreOnRingMarked : PlaneMap → List ℕ → List Bool → Type 0
AreOnRingMarked m ids on_ring = (k : ℕ) → k < length ids → is_marked on_ring k ≡ is_on_ring m (slice_index ids k)
