use Rattle.std.proofs.Common.{arith, length}
use Rattle.min_max_tree.specs.MinMaxView.{searched}
use Rattle.min_max_tree.specs.Tree.{node_to}
use Rattle.min_max_tree.proofs.Nodes.{node-there}
use Rattle.min_max_tree.proofs.Climb.{leads_on, led_to}
use Rattle.min_max_tree.proofs.view.MinMaxView.after.Goals as goal

pub descend-lowest-requires-clause-small : goal.descend-lowest-requires-clause-small
descend-lowest-requires-clause-small g c =
    let bits = searched c.args.self.now in
    let l = c.in-Some.ensures.found in
    let t = node-there (length bits) c.in-Some.spot.level.height c.in-Some.spot.j l.is_spot.within in
    let f = l.rests.few in
    let few = c.args.self.now.few in
    omega arith

pub in_block-requires-clause-small : goal.in_block-requires-clause-small
in_block-requires-clause-small g c =
    let bits = searched c.args.self.now in
    let l = leads_on bits (node_to (length bits) 0 c.args.block) c.args.need c.in-Some.spot c.descend-lowest.result c.in-Some.ensures.found c.descend-lowest.ensures.leads in
    let t = node-there (length bits) c.descend-lowest.result.level.height c.descend-lowest.result.j l.is_spot.within in
    let f = l.rests.few in
    let few = c.args.self.now.few in
    omega arith

pub returns-in-Some-clause-found : goal.returns-in-Some-clause-found
returns-in-Some-clause-found g c =
    let bits = searched c.args.self.now in
    let low = node_to (length bits) 0 c.args.block in
    let l = leads_on bits low c.args.need c.in-Some.spot c.descend-lowest.result c.in-Some.ensures.found c.descend-lowest.ensures.leads in
    led_to bits low c.args.need c.in_block.result c.descend-lowest.result l c.descend-lowest.ensures.height c.in_block.ensures.found
