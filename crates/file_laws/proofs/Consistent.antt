-- The tables of whole contents are consistent.
use Rattle.std.specs.Prelude.{ℤ}
use Rattle.std.proofs.Common.{◌≡◌, true}
use Rattle.std.proofs.lemmas.Bool.{and_from}
use Rattle.plane_model.specs.Sets.{has_edge}
use Rattle.plane_model.specs.PlaneMap.{map_of}
use Rattle.plane_model.specs.Rotation.{is_rotation_system}
use Rattle.plane_model.specs.Component.{is_plane}
use Rattle.plane_model.specs.Faces.{is_labelled, is_placed, is_outer}
use Rattle.plane_model.specs.Regions.{is_region_forest}
use Rattle.plane_model.specs.Consistent.{is_consistent}
use Rattle.plane_model.specs.InRange.{is_in_range}
use Rattle.file_laws.specs.Contents.{Contents}
use Rattle.file_laws.specs.MapOfFile.{rows_of_contents}
use Rattle.file_laws.specs.Agreement.{starts_of}
use Rattle.file_laws.specs.Lawful.{is_whole}
use Rattle.file_laws.proofs.Consistency.{labelled}
use Rattle.file_laws.proofs.Whole.{WholeParts, whole_parts}
use Rattle.file_laws.proofs.InRange.{in_range}
use Rattle.file_laws.proofs.Regions.{forest}
use Rattle.file_laws.proofs.Rotation.{rotation_system}
use Rattle.file_laws.proofs.Plane.{plane}
use Rattle.file_laws.proofs.Placed.{placed, outer_starts}

module _ (c : Contents) (h : is_whole c ≡ true) where
  w : WholeParts c
  w = whole_parts c h

  pub range_of : is_in_range (rows_of_contents c) ≡ true
  range_of = in_range c w

  pub rotation_of : is_rotation_system (rows_of_contents c) ≡ true
  rotation_of = rotation_system c w

  pub labelled_of : is_labelled (map_of (rows_of_contents c)) ≡ true
  labelled_of = labelled c w.seen

  pub plane_of : is_plane (map_of (rows_of_contents c)) ≡ true
  plane_of = plane c w

  pub placed_of : is_placed (map_of (rows_of_contents c)) ≡ true
  placed_of = placed c w

  pub forest_of : is_region_forest (rows_of_contents c) ≡ true
  forest_of = forest c w

  pub consistent_of : is_consistent (rows_of_contents c) ≡ true
  consistent_of = and_from _ _ (and_from _ _ (and_from _ _ (and_from _ _ rotation_of labelled_of) plane_of) placed_of) forest_of

  pub outer_of : (r : ℤ) → is_outer (map_of (rows_of_contents c)) r ≡ has_edge (starts_of c) r
  outer_of = outer_starts c w
