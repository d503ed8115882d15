-- The walk round the components of tables, from the darts of their outer rings.
use Rattle.std.specs.Prelude.{◌≡◌, ℤ, List, length, map}
use Rattle.plane_model.specs.Rows.{Rows}
use Rattle.plane_model.specs.PlaneMap.{map_of, side}
use Rattle.plane_model.specs.Faces.{outer_rings}
use Rattle.code_laws.specs.Code.{Code}
use Rattle.code_laws.specs.Tour.{code_of}
use Rattle.plane_model.specs.declared.rows.EdgeRow.{EdgeRow}
use Rattle.rotation_check.specs.Darts.{signed_edge, rotation_rows}
use Rattle.spanning_pair.specs.declared.places.Tour.{Tour}
use Rattle.spanning_pair.specs.Rotations.{next_dart, node_row}
use Rattle.spanning_pair.specs.Tours.{IsTour}
use Rattle.map_build.specs.Starts.{AreOuterDarts}
use Rattle.map_build.specs.declared.checked.Walked.{Walked}

pub record IsWalkOf (t : Rows) (w : Walked) : Type 0 where
  pub starts : AreOuterDarts t w.placement.starts
  -- the face that contains each component
  pub faces : w.placement.faces ≡ map (side (map_of t)) (outer_rings (map_of t))
  pub tour : IsTour (length t.edges) (next_dart (rotation_rows t)) (node_row (rotation_rows t)) w.placement.starts w.tour.darts.items w.tour.tree.items w.tour.first.items w.tour.starts.items

-- the code of a tour
abbrev pub code_of_tour : Tour → Code
code_of_tour tour = code_of tour.tree.items tour.first.items tour.starts.items

-- the signed edges of a tour
abbrev pub edges_of_tour : List EdgeRow → Tour → List ℤ
edges_of_tour edges tour = map (signed_edge edges) tour.darts.items
