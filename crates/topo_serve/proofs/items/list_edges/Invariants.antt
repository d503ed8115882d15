use Rattle.std.proofs.Common.{map, drop}
use Rattle.topo_base.specs.Script.{Item}
use Rattle.topo_serve.specs.Gathering.{out_at}
use Rattle.topo_serve.proofs.Listing.{IsListed}
use Rattle.topo_serve.proofs.items.list_edges.Given as goal

abbrev pub invariant-loop-edge : goal.invariant-loop-edge
invariant-loop-edge g l =
    IsListed (map Item.Signed_edge l.edges) (map Item.Signed_edge (drop l.edge-index l.edges))
    (out_at (g.K.Sink.held l.initial.out) (g.K.Sink.faults l.initial.out) l.initial.text.items) (out_at (g.K.Sink.held l.out) (g.K.Sink.faults l.out) l.text.items)
