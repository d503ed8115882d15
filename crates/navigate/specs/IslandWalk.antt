-- What a walk over the components and isolated nodes in a face still gives, and what it may still read.
use Rattle.std.specs.Prelude.{ℕ, ◌+◌, ◌-◌, ◌*◌, ℤ, List, map, length, ◌++◌}
use Rattle.std.specs.List.{range_with_len}
use Rattle.topo_base.specs.Script.{Item}
use Rattle.code_laws.specs.Code.{start_of}
use Rattle.file_laws.specs.Contents.{Contents}
use Rattle.file_laws.specs.MapOfFile.{signed_at}
use Rattle.file_laws.specs.Faults.{isolated_id}
use Rattle.pemb_file.specs.Served.{contents_of_view}
use Rattle.navigate.specs.Bound.{line_digits}
use Rattle.navigate.specs.Holes.{components_between}
use Rattle.navigate.specs.declared.inside.Island.{Island}
use Rattle.navigate.specs.declared.inside.Island.TheVariants as island
use Rattle.navigate.specs.declared.inside.IslandWalk.{IslandWalk}

-- the contents that it goes over
abbrev pub contents_in : IslandWalk → Contents
contents_in w = contents_of_view w.served

-- an item of an answer
abbrev pub item_of : Island → Item
item_of (island.Edge d) = Item.Signed_edge d
item_of (island.Node n) = Item.Island_node n.0

-- the smallest signed edges of components
abbrev pub hole_edges : Contents → List ℕ → List ℤ
hole_edges c js = map (λ j. signed_at c (start_of c.code j)) js

-- the isolated nodes from one to before another
abbrev pub nodes_between : Contents → ℕ → ℕ → List ℕ
nodes_between c from to = map (isolated_id c) (range_with_len from (to - from))

-- components from one entry of their order to before another, and then isolated nodes in the same way
abbrev pub items_between : Contents → ℕ → ℕ → ℕ → ℕ → List Item
items_between c hole end node last = map Item.Signed_edge (hole_edges c (components_between c hole end)) ++ map Item.Island_node (nodes_between c node last)

-- what it still gives
unfoldable pub rest : IslandWalk → List Item
rest w = items_between (contents_in w) w.hole w.end w.node w.last

-- what reading a component's start and its signed edge costs at most
abbrev pub price : Contents → ℕ
price c = 7 * line_digits c + 84

-- how many words it still reads at most
unfoldable pub allowance : IslandWalk → ℕ
allowance w = price (contents_in w) * length (rest w)
