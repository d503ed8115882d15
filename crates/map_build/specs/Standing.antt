-- The order of what stands in faces.
use Rattle.std.specs.Prelude.{◌≡◌, ℕ, ◌+◌, ◌<◌, ◌⊎◌, List, length, map, slice_index}
use Rattle.map_build.specs.declared.standing.Standing.{Standing}

abbrev pub place_in : List Standing → ℕ → ℕ
place_in xs i = slice_index (map (λ s. s.place) xs) i

abbrev pub key_in : List Standing → ℕ → ℕ
key_in xs i = slice_index (map (λ s. s.key) xs) i

-- places rise, and where they are the same, keys do
abbrev pub AreInOrder : List Standing → Type 0
AreInOrder xs = (i : ℕ) → i + 1 < length xs → (place_in xs i < place_in xs (i + 1)) ⊎ ((place_in xs i ≡ place_in xs (i + 1)) × (key_in xs i < key_in xs (i + 1)))
