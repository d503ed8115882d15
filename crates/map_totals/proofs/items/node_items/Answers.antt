use Rattle.std.proofs.Common.{ap, arith, length}
use Rattle.pemb_file.specs.Served.{contents_of_view}
use Rattle.map_totals.proofs.Few.{node-few}
use Rattle.map_totals.proofs.items.node_items.Goals as goal

pub count_node-requires : goal.count_node-requires
count_node-requires g c =
    let few = node-few (contents_of_view c.args.served) c.args.served.whole c.args.node.0 in
    let same = ap length c.in-Some.ensures.list in
    omega (arith, few, same)
