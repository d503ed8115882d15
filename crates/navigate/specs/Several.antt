-- Some signed edges of a walk at once.
use Rattle.std.specs.Prelude.{ℤ, List, take}
use Rattle.navigate.specs.declared.several.Several.{Several}

-- the signed edges, one after the other
abbrev pub edges_in : Several → List ℤ
edges_in s = take s.count s.edges
