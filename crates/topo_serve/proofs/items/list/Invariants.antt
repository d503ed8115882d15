use Rattle.std.proofs.Common.{◌+◌, ◌≤◌, length}
use Rattle.topo_serve.specs.Gathering.{out_at}
use Rattle.topo_serve.proofs.Listing.{IsListed}
use Rattle.topo_serve.proofs.items.list.Given as goal

abbrev pub invariant-loop-items : goal.invariant-loop-items
invariant-loop-items g l =
    IsListed (g.W.Items.items l.initial.walk) (g.W.Items.items l.walk)
    (out_at (g.K.Sink.held l.initial.out) (g.K.Sink.faults l.initial.out) l.initial.text.items) (out_at (g.K.Sink.held l.out) (g.K.Sink.faults l.out) l.text.items)
    × (l.initial.steps + length (g.W.Items.items l.initial.walk) ≤ l.steps + length (g.W.Items.items l.walk))
    × (l.initial.steps ≤ l.steps)
    × (l.steps + g.W.Items.allowance l.walk ≤ l.initial.steps + g.W.Items.allowance l.initial.walk)

abbrev pub decreases-loop-items : goal.decreases-loop-items
decreases-loop-items g l = length (g.W.Items.items l.walk)
