-- The components and isolated nodes that lie at one place, which is a face's: 0 for face 0, and else 1 + its number.
use Rattle.std.specs.Prelude.{ℕ, ◌-◌, ◌==◌, false, List, [], ◌∷◌, ◌++◌, filter, take, drop, slice_index}
use Rattle.code_laws.specs.Code.{start_of}
use Rattle.code_laws.specs.Orbits.{orbit}
use Rattle.file_laws.specs.Contents.{Contents}

-- the components at a place, in the order of the file
abbrev pub components_at : Contents → ℕ → List ℕ
components_at c place = filter (λ j. slice_index c.places j == place) c.place_order

-- the components from one entry of the order to before another
abbrev pub components_between : Contents → ℕ → ℕ → List ℕ
components_between c from to = take (to - from) (drop from c.place_order)

-- the positions of the outer rings of components, each from the component's start
unfoldable pub outer_positions : Contents → List ℕ → List ℕ
outer_positions c [] = []
outer_positions c (j ∷ js) = orbit c.code false (start_of c.code j) ++ outer_positions c js
