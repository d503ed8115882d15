-- The first signed edges of a list.
use Rattle.std.specs.Prelude.{ℤ, List, take}
use Rattle.navigate.specs.declared.first_edges.FirstEdges.{FirstEdges}

-- the signed edges, one after the other
abbrev pub edges_in : FirstEdges → List ℤ
edges_in s = take s.count s.edges
