-- What does not look at the face table: rings, components, outer rings, the rotation and the labels.
use Rattle.std.proofs.Common.{◌≡◌, ℤ, List, refl, sym, ◌∙◌}
use Rattle.plane_model.specs.declared.rows.FaceRow.{FaceRow}
use Rattle.plane_model.specs.Rows.{Rows}
use Rattle.plane_model.specs.PlaneMap.{map_of, signed_edges, ring, rings}
use Rattle.plane_model.specs.Rotation.{is_rotation}
use Rattle.plane_model.specs.Component.{component, components}
use Rattle.plane_model.specs.Faces.{is_labelled, outer_rings}
use Rattle.plane_model.proofs.Alone.{signed-alone, rotation-alone, labelled-alone, rings-alone, component-alone, components-alone, outer-alone}

-- the same tables with another face table
abbrev pub with_faces : Rows → List FaceRow → Rows
with_faces t faces = record t { faces = faces }

pub same_rotation : (t : Rows) (faces : List FaceRow) → is_rotation (map_of (with_faces t faces)) ≡ is_rotation (map_of t)
same_rotation t faces = sym (rotation-alone (with_faces t faces)) ∙ rotation-alone t

pub same_labels : (t : Rows) (faces : List FaceRow) → is_labelled (map_of (with_faces t faces)) ≡ is_labelled (map_of t)
same_labels t faces = sym (labelled-alone (with_faces t faces)) ∙ labelled-alone t

pub same_signed_edges : (t : Rows) (faces : List FaceRow) → signed_edges (map_of (with_faces t faces)) ≡ signed_edges (map_of t)
same_signed_edges t faces = sym (signed-alone (with_faces t faces)) ∙ signed-alone t

pub same_ring : (t : Rows) (faces : List FaceRow) (d : ℤ) → ring (map_of (with_faces t faces)) d ≡ ring (map_of t) d
unfolding signed_edges
same_ring t faces d = refl

pub same_rings : (t : Rows) (faces : List FaceRow) → rings (map_of (with_faces t faces)) ≡ rings (map_of t)
same_rings t faces = sym (rings-alone (with_faces t faces)) ∙ rings-alone t

pub same_component : (t : Rows) (faces : List FaceRow) (d : ℤ) → component (map_of (with_faces t faces)) d ≡ component (map_of t) d
same_component t faces d = sym (component-alone (with_faces t faces) d) ∙ component-alone t d

pub same_components : (t : Rows) (faces : List FaceRow) → components (map_of (with_faces t faces)) ≡ components (map_of t)
same_components t faces = sym (components-alone (with_faces t faces)) ∙ components-alone t

pub same_outer : (t : Rows) (faces : List FaceRow) → outer_rings (map_of (with_faces t faces)) ≡ outer_rings (map_of t)
same_outer t faces = sym (outer-alone (with_faces t faces)) ∙ outer-alone t
