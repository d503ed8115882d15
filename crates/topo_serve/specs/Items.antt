-- The items of answers, in the words of the script's grammar.
use Rattle.std.specs.Prelude.{List, [], ◌∷◌, map}
use Rattle.topo_base.specs.Script as script
use Rattle.navigate.specs.Several.{edges_in}
use Rattle.topo_serve.specs.declared.item.Item.{Item}
use Rattle.topo_serve.specs.declared.item.Item.TheVariants.{Edge, Number, Node}
use Rattle.topo_serve.specs.declared.next_items.NextItems.{NextItems}
use Rattle.topo_serve.specs.declared.next_items.NextItems.TheVariants.{Edges, One, End}

-- the item that is printed
abbrev pub item_of : Item → script.Item
item_of (Edge d) = script.Signed_edge d
item_of (Number n) = script.Number n
item_of (Node n) = script.Island_node n.0

-- the items that are given at once, one after the other
abbrev pub items_of : NextItems → List script.Item
items_of (Edges edges) = map script.Signed_edge (edges_in edges)
items_of (One item) = item_of item ∷ []
items_of End = []
