use Rattle.std.specs.Prelude.{pos, ◌+ℤ◌, ◌<ℤ◌}
use Rattle.std.proofs.Common.{arith}
use Rattle.std.proofs.lemmas.Int.{ints}
use Rattle.min_max_tree.specs.MinMaxView.{searched}
use Rattle.min_max_tree.specs.Tree.{least_of, total_of}
use Rattle.min_max_tree.proofs.Backs.{passed_back, passed_back_some}
use Rattle.min_max_tree.proofs.view.MinMaxView.pass_back.Goals as goal

pub overflow_sub-result : goal.overflow_sub-result
overflow_sub-result g c =
    let bits = searched c.args.self.now in
    let up : total_of bits c.args.level.height c.args.j <ℤ (least_of bits c.args.level.height c.args.j +ℤ pos c.args.need) = omega (arith, ints, c.node-node.ensures.least, c.node-node.ensures.total) in
    let s = passed_back_some bits c.args.level.height c.args.j c.args.need c.requires.within up in
    omega (arith, ints, s, c.node-node.ensures.total)

pub returns-else-node-need-clause-passed : goal.returns-else-node-need-clause-passed
returns-else-node-need-clause-passed g c =
    let bits = searched c.args.self.now in
    let up : total_of bits c.args.level.height c.args.j <ℤ (least_of bits c.args.level.height c.args.j +ℤ pos c.args.need) = omega (arith, ints, c.node-node.ensures.least, c.node-node.ensures.total) in
    let s = passed_back_some bits c.args.level.height c.args.j c.args.need c.requires.within up in
    passed_back bits c.args.level.height c.args.j c.args.need _ c.requires.within c.requires.need up (omega (arith, ints, s, c.node-node.ensures.total))
