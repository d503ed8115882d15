-- The map of a rotation and a face table.
use Rattle.std.specs.Prelude.{IsTrue, List, [], map}
use Rattle.std.specs.List.{list_all}
use Rattle.plane_model.specs.declared.rows.FaceRow.{FaceRow}
use Rattle.plane_model.specs.Rows.{Rows}
use Rattle.plane_model.specs.Sets.{is_distinct}
use Rattle.plane_model.specs.PlaneMap.{PlaneMap, map_of, signed_edges, side}
use Rattle.plane_model.specs.Rotation.{is_face}
use Rattle.rotation_check.specs.Darts.{RotationRows}

-- the tables of a rotation and these faces
abbrev pub rows_with_faces : RotationRows → List FaceRow → Rows
rows_with_faces r faces = record { nodes = r.nodes; edges = r.edges; faces = faces; regions = []; members = [] }

-- and their map
abbrev pub map_with_faces : RotationRows → List FaceRow → PlaneMap
map_with_faces r faces = map_of (rows_with_faces r faces)

-- ids of faces are distinct, and each face beside an edge is 0 or has a row
pub record AreFacesOf (r : RotationRows) (faces : List FaceRow) : Type 0 where
  pub distinct : IsTrue (is_distinct (map (λ f. f.id) faces))
  pub there : IsTrue (list_all (λ d. is_face (map_with_faces r faces) (side (map_with_faces r faces) d)) (signed_edges (map_with_faces r faces)))
