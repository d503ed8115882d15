use Rattle.std.proofs.Common.{arith}
use Rattle.pemb_file.specs.Served.{contents_of_view}
use Rattle.pemb_file.proofs.PlaceLaws.{nodes_rise}
use Rattle.navigate.proofs.places.isolated_to.Goals as goal

pub returns-then-isolated-place-clause-from : goal.returns-then-isolated-place-clause-from
returns-then-isolated-place-clause-from g c = λ i l below.
    let up = nodes_rise (contents_of_view c.args.served) c.args.served.whole c.args.below i l below in
    omega (arith, up, c.isolated.ensures.place, c.if-isolated-place.true)
