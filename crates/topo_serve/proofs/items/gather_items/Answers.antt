use Rattle.topo_serve.proofs.Listing.{writes_one}
use Rattle.topo_serve.proofs.items.gather_items.Goals as goal

pub returns-in-One : goal.returns-in-One
returns-in-One g c = rw c.in-One.is (writes_one _ _ _ _ c.gather_item.ensures)
