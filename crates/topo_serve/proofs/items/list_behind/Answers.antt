use Rattle.std.proofs.Common.{◌++◌, map, refl}
use Rattle.topo_base.specs.Script.{Item}
use Rattle.topo_serve.proofs.Listing.{listed_none, listed_some, listed_then, some_part}
use Rattle.topo_serve.proofs.items.list_behind.Goals as goal

pub returns-clause-writes : goal.returns-clause-writes
returns-clause-writes g c =
    listed_then _ (map Item.Signed_edge c.args.edges.now ++ g.W.Items.items c.args.walk.now) (g.W.Items.items c.args.walk.now) _ _ _
    (listed_some _ _ _ _ (map Item.Signed_edge c.args.edges.now) _ _ _ (listed_none _ _) refl c.in_ok-list_edges.ensures) c.list.ensures.writes

pub returns-in_err-list_edges-clause-writes : goal.returns-in_err-list_edges-clause-writes
returns-in_err-list_edges-clause-writes g c =
    some_part _ _ _ _ _ (g.W.Items.items c.args.walk.now) (map Item.Signed_edge c.args.edges.now) _ _ _ (listed_none _ _) refl c.from_residual.ensures.1 c.in_err-list_edges.ensures
