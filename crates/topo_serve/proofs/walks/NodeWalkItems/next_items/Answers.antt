use Rattle.std.proofs.Common.{ap, map}
use Rattle.topo_base.specs.Script.{Item}
use Rattle.topo_serve.proofs.Listing.{split_items, none_as_items}
use Rattle.topo_serve.proofs.walks.NodeWalkItems.next_items.Goals as goal

pub returns-then-is_over-clause-end : goal.returns-then-is_over-clause-end
returns-then-is_over-clause-end g c none = ap (map Item.Signed_edge) (c.is_over.ensures.0 c.if-is_over.true)

pub returns-clause-next : goal.returns-clause-next
returns-clause-next g c = split_items Item.Signed_edge _ _ _ c.several.ensures.gives

pub returns-clause-end : goal.returns-clause-end
returns-clause-end g c none = ap (map Item.Signed_edge) (c.several.ensures.end (none_as_items Item.Signed_edge _ none))

pub returns-clause-free : goal.returns-clause-free
returns-clause-free g c none = c.several.ensures.free (none_as_items Item.Signed_edge _ none)
