-- What a walk round an outline gives: each signed edge of each ring, and behind each ring its end.
use Rattle.std.specs.Prelude.{ℤ, Bool, true, false, List, [], ◌∷◌, ◌++◌, map, flat_map}
use Rattle.region_border.specs.declared.item.BorderItem.{BorderItem}
use Rattle.region_border.specs.declared.item.BorderItem.TheVariants as item

-- a ring's signed edges and its end
abbrev pub ring_items : List ℤ → List BorderItem
ring_items ds = map item.Edge ds ++ item.RingEnd ∷ []

-- the items of rings, one ring after the other
abbrev pub items_of : List (List ℤ) → List BorderItem
items_of rings = flat_map ring_items rings

abbrev pub is_edge : BorderItem → Bool
is_edge (item.Edge d) = true
is_edge item.RingEnd = false

-- the signed edges among items
unfoldable pub edges_in : List BorderItem → List ℤ
edges_in [] = []
edges_in (item.Edge d ∷ items) = d ∷ edges_in items
edges_in (item.RingEnd ∷ items) = edges_in items
