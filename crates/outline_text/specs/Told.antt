-- The same text by the items of a walk round the outline.
use Rattle.std.specs.Prelude.{ℕ, ◌+◌, Bool, false, if◌then◌else◌, List, [], ◌∷◌, ◌++◌, map, flat_map, codes}
use Rattle.topo_base.specs.Script.{Item, item_text}
use Rattle.region_border.specs.Items.{is_edge}
use Rattle.region_border.specs.declared.item.BorderItem.{BorderItem}
use Rattle.region_border.specs.declared.item.BorderItem.TheVariants as item
use Rattle.outline_text.specs.Lines.{region_text}

-- what an item adds to the text, where its ring was begun or not
abbrev pub told : Bool → BorderItem → List ℕ
told begun (item.Edge d) = (if begun then [] else codes "ring:") ++ item_text (Item.Signed_edge d)
told begun item.RingEnd = 10 ∷ []

-- the text of items, where the ring of the first of them was begun or not
abbrev pub rings_text : Bool → List BorderItem → List ℕ
rings_text begun [] = []
rings_text begun (i ∷ items) = told begun i ++ rings_text (is_edge i) items

-- one where an item is the end of a ring
abbrev pub one_ring : BorderItem → ℕ
one_ring (item.Edge d) = 0
one_ring item.RingEnd = 1

-- one where an item is a signed edge
abbrev pub one_edge : BorderItem → ℕ
one_edge (item.Edge d) = 1
one_edge item.RingEnd = 0

-- how many rings end among items
abbrev pub rings_among : List BorderItem → ℕ
rings_among [] = 0
rings_among (i ∷ items) = one_ring i + rings_among items

-- how many signed edges are among items
abbrev pub edges_among : List BorderItem → ℕ
edges_among [] = 0
edges_among (i ∷ items) = one_edge i + edges_among items

-- how many rings and how many signed edges, each behind a space
abbrev pub counts_text : ℕ → ℕ → List ℕ
counts_text rings edges = flat_map item_text (map Item.Number (rings ∷ edges ∷ []))

-- the text of all items of a walk, and the last line
abbrev pub outline_text : ℕ → List BorderItem → List ℕ
outline_text r items = rings_text false items ++ region_text r ++ counts_text (rings_among items) (edges_among items) ++ 10 ∷ []
