-- The outer rings by number.
use Rattle.std.specs.Prelude.{◌≡◌, ℕ, List, map}
use Rattle.plane_model.specs.Rows.{Rows}
use Rattle.plane_model.specs.PlaneMap.{map_of}
use Rattle.plane_model.specs.Faces.{outer_rings}
use Rattle.placement_laws.specs.Placing.{IsLabelledRotation}
use Rattle.islands.specs.Numbered.{AreRingNumbers, ring_at}

-- the numbers of the outer rings of each map that is numbered so, in order
abbrev pub AreOuterRings : List ℕ → List ℕ → ℕ → List ℕ → Type 0
AreOuterRings faces components face_count starts = (t : Rows) (id : ℕ → ℕ) → IsLabelledRotation t → AreRingNumbers (map_of t) id faces components face_count → map (ring_at (map_of t)) starts ≡ outer_rings (map_of t)
