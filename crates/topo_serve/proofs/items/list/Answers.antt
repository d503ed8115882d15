use Rattle.std.proofs.Common.{arith}
use Rattle.topo_serve.specs.Items.{items_of}
use Rattle.topo_serve.proofs.Listing.{listed_some, some_part, all_left}
use Rattle.topo_serve.proofs.items.list.Goals as goal

pub loop-items-preserved : goal.loop-items-preserved
loop-items-preserved g c =
    let next = c.next_items-items.ensures.next in
    let lengths = all_left (g.W.Items.items c.loop-items.walk) (g.W.Items.items c.next_items-items.new.self) (items_of c.next_items-items.result) next in
    let least = c.next_items-items.ensures.least in
    let kept = c.loop-items.invariant in (
      listed_some _ _ _ _ (items_of c.next_items-items.result) _ _ _ kept.0 next c.in_ok-gather_items.ensures,
      omega (arith, lengths, least, kept.1),
      omega (arith, least, kept.2),
      omega (arith, kept.3, c.next_items-items.ensures.paid),
    )

pub returns-in_err-gather_items-clause-writes : goal.returns-in_err-gather_items-clause-writes
returns-in_err-gather_items-clause-writes g c =
    some_part _ _ _ _ _ _ (items_of c.next_items-items.result) _ _ _ c.loop-items.invariant.0 c.next_items-items.ensures.next c.from_residual.ensures.1 c.in_err-gather_items.ensures
