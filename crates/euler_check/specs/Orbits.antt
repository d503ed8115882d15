-- Orbits of a step on signed edges.
use Rattle.std.specs.Prelude.{ℤ, List, filter, length}
use Rattle.topo_base.specs.SignedEdge.{same_edge}
use Rattle.plane_model.specs.PlaneMap.{smallest, until_return}

-- the orbits, each by its smallest signed edge
abbrev pub orbit_names : List ℤ → (ℤ → ℤ) → List ℤ
orbit_names us step = filter (λ d. same_edge d (smallest d (until_return (length us) step d d))) us
