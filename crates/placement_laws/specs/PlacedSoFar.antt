-- Placing round by round: each face is entered once, and a round looks at the rings of the faces that are entered in
-- it.
use Rattle.std.specs.Prelude.{◌≡◌, ◌≤◌, ◌&&◌, ℕ, ℤ, not, IsTrue, List, ◌++◌, map, filter, length}
use Rattle.plane_model.specs.Sets.{has, has_edge}
use Rattle.plane_model.specs.PlaneMap.{PlaneMap, side, rings}
use Rattle.plane_model.specs.Component.{components}
use Rattle.plane_model.specs.Faces.{of_components, reached_through, outer_rings}

-- how many components have none of these rings
abbrev pub unreached : PlaneMap → List ℤ → ℕ
unreached m starts = length (filter (λ c. not (has_edge (of_components m starts) c)) (components m))

-- the rings on the faces of the front whose component was not reached, rising
abbrev pub round_starts : PlaneMap → List ℕ → List ℤ → List ℤ
round_starts m front starts = filter (λ r. has front (side m r) && not (has_edge (of_components m starts) r)) (rings m)

-- before a round: the starts so far, the faces that are entered next, and those that were entered before; nothing
-- computes how many rounds are left
pub record IsPlacedSoFar (m : PlaneMap) (left : ℕ) (front entered : List ℕ) (starts : List ℤ) : Type 0 where
  -- the outer rings are the starts so far and those of the rounds that are left
  pub rest : starts ++ reached_through left m front (of_components m starts) ≡ outer_rings m
  pub enough : unreached m starts ≤ left
  pub among : (r : ℤ) → IsTrue (has_edge starts r) → IsTrue (has_edge (rings m) r)
  -- the rings of a face that was entered are reached
  pub reached : (r : ℤ) → IsTrue (has_edge (rings m) r) → IsTrue (has entered (side m r)) → IsTrue (has_edge (of_components m starts) r)

-- the front of the next round: the faces beside the components of the round's starts, without those that were entered
abbrev pub IsNextFront : PlaneMap → List ℕ → List ℤ → List ℕ → Type 0
IsNextFront m entered new front = (f : ℕ) → has front f ≡ (has (map (side m) (of_components m new)) f && not (has entered f))
