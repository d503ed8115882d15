-- Where border rings begin: at their smallest signed edges.
use Rattle.std.specs.Prelude.{ℕ, ℤ, Bool, ◌&&◌, List, map, filter, flat_map}
use Rattle.topo_base.specs.SignedEdge.{same_edge}
use Rattle.plane_model.specs.PlaneMap.{PlaneMap, smallest}
use Rattle.plane_model.specs.Border.{is_border, border_ring}

-- whether a signed edge is the smallest of a border ring
abbrev pub begins_ring : PlaneMap → ℕ → ℤ → Bool
begins_ring m r d = is_border m r d && same_edge d (smallest d (border_ring m r d))

-- the signed edges of the border rings that begin at some of these
abbrev pub edges_from : PlaneMap → ℕ → List ℤ → List ℤ
edges_from m r ds = flat_map (border_ring m r) (filter (begins_ring m r) ds)
