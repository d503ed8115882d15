use Rattle.std.proofs.Common.{ap, map}
use Rattle.topo_base.specs.Script.{Item}
use Rattle.topo_serve.proofs.walks.RegionWalkItems.next_items.Goals as goal

pub returns-in-Some-clause-next : goal.returns-in-Some-clause-next
returns-in-Some-clause-next g c = ap (map Item.Number) c.in-Some.ensures.next
