-- Which signed edges are looked at on the way to the next one of an outline.
use Rattle.std.specs.Prelude.{ℕ, zero, suc, ℤ, if◌then◌else◌, List, [], ◌∷◌, ◌++◌, length}
use Rattle.plane_model.specs.PlaneMap.{PlaneMap, signed_edges, next, turn}
use Rattle.plane_model.specs.Border.{is_border, outline}

-- those from d on, turning round its node, that come before the first border edge: n of them at most
unfoldable pub passed_from : ℕ → PlaneMap → ℕ → ℤ → List ℤ
passed_from zero m r d = []
passed_from (suc n) m r d = let more = passed_from n m r (turn m d) in if is_border m r d then [] else d ∷ more

-- those between a border edge and the next one of the outline
abbrev pub passed : PlaneMap → ℕ → ℤ → List ℤ
passed m r d = passed_from (length (signed_edges m)) m r (next m d)

-- those and the next one
abbrev pub looked : PlaneMap → ℕ → ℤ → List ℤ
looked m r d = passed m r d ++ outline m r d ∷ []
