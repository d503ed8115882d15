use Rattle.std.proofs.Common.{map, drop}
use Rattle.topo_base.specs.Script.{Item}
use Rattle.topo_serve.specs.Gathering.{out_at}
use Rattle.topo_serve.proofs.Listing.{IsListed}
use Rattle.topo_serve.proofs.items.list_numbers.Given as goal

abbrev pub invariant-loop-number : goal.invariant-loop-number
invariant-loop-number g l =
    IsListed (map Item.Number l.numbers) (map Item.Number (drop l.number-index l.numbers))
    (out_at (g.K.Sink.held l.initial.out) (g.K.Sink.faults l.initial.out) l.initial.text.items) (out_at (g.K.Sink.held l.out) (g.K.Sink.faults l.out) l.text.items)
