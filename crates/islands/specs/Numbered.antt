-- Rings, faces and components of a map by number: a ring's number is its place among the rings, which rise.
use Rattle.std.specs.Prelude.{◌≡◌, ◌<◌, ◌==◌, ℕ, ℤ, pos, List, length, slice_get, slice_index, unwrap_or}
use Rattle.plane_model.specs.Sets.{has_edge}
use Rattle.plane_model.specs.PlaneMap.{PlaneMap, side, rings}
use Rattle.plane_model.specs.Component.{component}

-- the smallest signed edge of the ring of this number
abbrev pub ring_at : PlaneMap → ℕ → ℤ
ring_at m i = unwrap_or (slice_get (rings m) i) (pos 0)

-- the faces and components of the rings, by numbers; faces have the numbers below the count, and face 0 has number 0
pub record AreRingNumbers (m : PlaneMap) (id : ℕ → ℕ) (faces components : List ℕ) (face_count : ℕ) : Type 0 where
  pub faces_many : length faces ≡ length (rings m)
  pub components_many : length components ≡ length (rings m)
  pub first : id 0 ≡ 0
  pub apart : (f g : ℕ) → f < face_count → g < face_count → id f ≡ id g → f ≡ g
  pub sides : (i : ℕ) → i < length faces → side m (ring_at m i) ≡ id (slice_index faces i)
  pub together : (i j : ℕ) → i < length faces → j < length faces → has_edge (component m (ring_at m i)) (ring_at m j) ≡ (slice_index components i == slice_index components j)

-- the numbers that faces and components have are below the counts
pub record AreBelow (faces components : List ℕ) (face_count component_count : ℕ) : Type 0 where
  pub same : length components ≡ length faces
  pub some : 0 < face_count
  pub face : (i : ℕ) → i < length faces → slice_index faces i < face_count
  pub component : (i : ℕ) → i < length faces → slice_index components i < component_count
