use Rattle.std.proofs.Common.{◌*◌, ap, arith, length, ◌∙◌}
use Rattle.code_laws.specs.Code.{Code}
use Rattle.pemb_file.specs.Served.{contents_of_view}
use Rattle.navigate.proofs.Facts.{w}
use Rattle.table_dump.specs.Ahead.{ahead_count}
use Rattle.table_dump.specs.Lines.{row_count}
use Rattle.table_dump.specs.Prices.{ahead_price}
use Rattle.table_dump.proofs.ahead.read_ahead.Goals as goal

pub new-tour-requires : goal.new-tour-requires
new-tour-requires g c =
    let m = contents_of_view c.args.served in
    let sizes = (w m c.args.served.whole).sizes.positions in
    let long = ap (λ (k : Code). length k.a) c.code.ensures.code in
    let asked = c.ahead_count.ensures ∙ ap (ahead_count m) c.in-Edge.is in
    omega (arith, sizes, long, asked, c.in-Ok.ensures.left, c.requires, c.read_ids-ids.ensures.left)

pub returns-in-Edge-clause-cost : goal.returns-in-Edge-clause-cost
returns-in-Edge-clause-cost g c =
    let m = contents_of_view c.args.served in
    let price = ap (λ t. row_count m t * ahead_price m t) c.in-Edge.is in
    omega (arith, price, c.read_ids-ids.ensures.cost, c.fill_ends.ensures.cost)
