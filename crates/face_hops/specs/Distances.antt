-- The distances of faces from one of them, by the places of faces: 0 for face 0, and else 1 + the number of the face.
use Rattle.std.specs.Prelude.{◌≡◌, ℕ, ◌+◌, ◌≤◌, List, length, slice_index, Option, Some, None}
use Rattle.plane_model.specs.Hops.{distance}
use Rattle.file_laws.specs.Contents.{Contents}
use Rattle.file_laws.specs.MapOfFile.{face_at_place}
use Rattle.navigate.specs.Bound.{map_with}

-- a distance as one number: 0 where there is none, and else 1 + the distance
abbrev pub as_number : Option ℕ → ℕ
as_number None = 0
as_number (Some n) = n + 1

-- for each place the distance of its face from the face at one place
pub record AreDistances (c : Contents) (to : ℕ) (ds : List ℕ) : Type 0 where
  pub long : length ds ≡ length c.faces + 1
  pub each : (place : ℕ) → place ≤ length c.faces → slice_index ds place ≡ as_number (distance (map_with c) (face_at_place c place) (face_at_place c to))
