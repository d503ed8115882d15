-- The graph of `placed`: its points are face 0, the other faces and the components, and its lines are the rings, each
-- between its face and its component.
use Rattle.std.specs.Prelude.{◌≡◌, ◌+◌, ◌++◌, ℕ, ℤ, pos, Bool, IsTrue, [], ◌∷◌, length}
use Rattle.plane_model.specs.Rows.{Rows}
use Rattle.plane_model.specs.Sets.{has, has_edge}
use Rattle.plane_model.specs.PlaneMap.{PlaneMap, side, rings, smallest}
use Rattle.plane_model.specs.Component.{component, components}
use Rattle.plane_model.specs.Worked.{edge, minus, tables, triangle_edges}

-- Some faces and some components, these by their smallest signed edges: face 0 is in, and along each ring its face is
-- in exactly where its component is.
pub record IsClosedAlongRings (m : PlaneMap) (faces : ℕ → Bool) (parts : ℤ → Bool) : Type 0 where
  pub face_0 : IsTrue (faces 0)
  pub along : (r : ℤ) → IsTrue (has_edge (rings m) r) → faces (side m r) ≡ parts (smallest r (component m r))

-- each such set has this component
abbrev pub EachClosedHas : PlaneMap → ℤ → Type 0
EachClosedHas m c = (faces : ℕ → Bool) (parts : ℤ → Bool) → IsClosedAlongRings m faces parts → IsTrue (parts c)

-- each such set has this face
abbrev pub EachClosedHasFace : PlaneMap → ℕ → Type 0
EachClosedHasFace m f = (faces : ℕ → Bool) (parts : ℤ → Bool) → IsClosedAlongRings m faces parts → IsTrue (faces f)

-- each such set has all components
abbrev pub EachClosedHasAll : PlaneMap → Type 0
EachClosedHasAll m = (c : ℤ) → IsTrue (has_edge (components m) c) → EachClosedHas m c

-- the graph is connected, and has one line fewer than points: face 0 is a point beside those counted here
pub record IsTree (m : PlaneMap) : Type 0 where
  pub components_joined : EachClosedHasAll m
  pub faces_joined : (f : ℕ) → IsTrue (has m.faces f) → EachClosedHasFace m f
  pub lines : length (rings m) ≡ length m.faces + length (components m)

-- a triangle, and a closed edge with face 2 on both sides: no ring leads from these to face 0
abbrev pub cut_off : Rows
cut_off = tables (1 ∷ 2 ∷ 3 ∷ 4 ∷ []) (triangle_edges ++ edge 4 4 4 (pos 4) (minus 4) 2 2 ∷ []) (1 ∷ 2 ∷ [])
