-- What is left of a ring of an outline.
use Rattle.std.specs.Prelude.{ℕ, ◌-◌, ℤ, if◌then◌else◌, List}
use Rattle.topo_base.specs.SignedEdge.{same_edge}
use Rattle.plane_model.specs.PlaneMap.{PlaneMap, until_return}
use Rattle.plane_model.specs.Border.{outline}
use Rattle.region_border.specs.declared.ring.Ring.{Ring}

-- the signed edges left
abbrev pub ring_left : PlaneMap → ℕ → Ring → List ℤ
ring_left m r ring = until_return ring.left (outline m r) ring.first ring.at

-- a ring from its first on, where so many may be left
abbrev pub ring_whole : ℤ → ℕ → Ring
ring_whole first left = record { first = first; at = first; left = left }

-- what is left from d on, where so many may be left: nothing where it is the first again
abbrev pub ring_from : ℤ → ℤ → ℕ → Ring
ring_from first d left = record { first = first; at = d; left = if same_edge d first then 0 else left }

-- what is left behind the next one, where d follows it
abbrev pub ring_after : Ring → ℤ → Ring
ring_after ring d = ring_from ring.first d (ring.left - 1)
