use Rattle.std.proofs.Common.{ap, map, rules}
use Rattle.std.proofs.lemmas.List.{drop_more}
use Rattle.topo_base.specs.Script.{Item}
use Rattle.topo_serve.proofs.Listing.{listed_more, listed_part}
use Rattle.topo_serve.proofs.items.list_numbers.Goals as goal

pub loop-number-preserved : goal.loop-number-preserved
loop-number-preserved g c =
    listed_more _ _ _ _ _ _ _ _ c.loop-number.invariant (ap (map Item.Number) (drop_more c.args.numbers.now c.loop-number.number-index 0 (search rules))) c.in_ok-gather_item.ensures

pub returns-in_err-gather_item : goal.returns-in_err-gather_item
returns-in_err-gather_item g c =
    listed_part _ _ _ _ _ _ _ _ _ _ c.loop-number.invariant (ap (map Item.Number) (drop_more c.args.numbers.now c.loop-number.number-index 0 (search rules))) c.from_residual.ensures.1 c.in_err-gather_item.ensures
