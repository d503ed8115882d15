use Rattle.std.proofs.Common.{arith, length}
use Rattle.min_max_tree.specs.MinMaxView.{searched}
use Rattle.min_max_tree.specs.Tree.{node_from}
use Rattle.min_max_tree.proofs.Nodes.{node-there}
use Rattle.min_max_tree.proofs.Backs.{leads_back_on, led_back_to}
use Rattle.min_max_tree.proofs.view.MinMaxView.earlier.Goals as goal

pub descend_back-lowest-requires-clause-small : goal.descend_back-lowest-requires-clause-small
descend_back-lowest-requires-clause-small g c =
    let t = node-there (length (searched c.args.self.now)) 0 c.args.block c.requires.within in
    omega (arith, t, c.in-Some.ensures.found.remains.few, c.args.self.now.few, c.requires.small)

pub in_block_back-requires-clause-small : goal.in_block_back-requires-clause-small
in_block_back-requires-clause-small g c =
    let bits = searched c.args.self.now in
    let l = leads_back_on bits (node_from 0 c.args.block) c.args.need c.in-Some.spot c.descend_back-lowest.result c.in-Some.ensures.found c.descend_back-lowest.ensures.leads in
    let t = node-there (length bits) 0 c.args.block c.requires.within in
    omega (arith, t, l.remains.few, c.args.self.now.few, c.requires.small)

pub returns-in-Some-clause-found : goal.returns-in-Some-clause-found
returns-in-Some-clause-found g c =
    let bits = searched c.args.self.now in
    let high = node_from 0 c.args.block in
    let l = leads_back_on bits high c.args.need c.in-Some.spot c.descend_back-lowest.result c.in-Some.ensures.found c.descend_back-lowest.ensures.leads in
    led_back_to bits high c.args.need c.in_block_back.result c.descend_back-lowest.result l c.descend_back-lowest.ensures.height c.in_block_back.ensures.found
