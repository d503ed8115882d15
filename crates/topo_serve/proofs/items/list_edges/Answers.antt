use Rattle.topo_serve.proofs.Listing.{listed_more, listed_part, edge_here}
use Rattle.topo_serve.proofs.items.list_edges.Goals as goal

pub loop-edge-preserved : goal.loop-edge-preserved
loop-edge-preserved g c =
    listed_more _ _ _ _ _ _ _ _ c.loop-edge.invariant (edge_here c.args.edges.now c.loop-edge.edge-index c.edge-item.result c.loop-edge-test.true c.edge-item.is) c.in_ok-gather_item.ensures

pub returns-in_err-gather_item : goal.returns-in_err-gather_item
returns-in_err-gather_item g c =
    listed_part _ _ _ _ _ _ _ _ _ _ c.loop-edge.invariant (edge_here c.args.edges.now c.loop-edge.edge-index c.edge-item.result c.loop-edge-test.true c.edge-item.is) c.from_residual.ensures.1 c.in_err-gather_item.ensures
