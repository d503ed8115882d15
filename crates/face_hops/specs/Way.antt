-- How the way between two faces goes on, by places.
use Rattle.std.specs.Prelude.{◌≡◌, ℕ, ◌∷◌}
use Rattle.plane_model.specs.Hops.{hops}
use Rattle.file_laws.specs.Contents.{Contents}
use Rattle.file_laws.specs.MapOfFile.{face_at_place}
use Rattle.navigate.specs.Bound.{map_with}

-- behind the face at one place the way to another goes on at a third
abbrev pub GoesOnAt : Contents → ℕ → ℕ → ℕ → Type 0
GoesOnAt c to place next = hops (map_with c) (face_at_place c place) (face_at_place c to) ≡ face_at_place c place ∷ hops (map_with c) (face_at_place c next) (face_at_place c to)
