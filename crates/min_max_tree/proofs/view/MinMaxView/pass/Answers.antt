use Rattle.std.specs.Prelude.{pos, ◌+ℤ◌, ◌<ℤ◌}
use Rattle.std.proofs.Common.{arith}
use Rattle.std.proofs.lemmas.Int.{ints}
use Rattle.min_max_tree.specs.MinMaxView.{searched}
use Rattle.min_max_tree.specs.Tree.{least_of}
use Rattle.min_max_tree.proofs.Levels.{passed_by, passed_some}
use Rattle.min_max_tree.proofs.view.MinMaxView.pass.Goals as goal

pub overflow_sub-result : goal.overflow_sub-result
overflow_sub-result g c =
    let bits = searched c.args.self.now in
    let up : pos 0 <ℤ (least_of bits c.args.level.height c.args.j +ℤ pos c.args.need) = omega (arith, ints, c.node-node.ensures.least) in
    let s = passed_some bits c.args.level.height c.args.j c.args.need c.requires.within up in
    omega (arith, ints, s, c.node-node.ensures.total)

pub returns-else-node-need-le2147483648-clause-passed : goal.returns-else-node-need-le2147483648-clause-passed
returns-else-node-need-le2147483648-clause-passed g c =
    let bits = searched c.args.self.now in
    let up : pos 0 <ℤ (least_of bits c.args.level.height c.args.j +ℤ pos c.args.need) = omega (arith, ints, c.node-node.ensures.least) in
    let s = passed_some bits c.args.level.height c.args.j c.args.need c.requires.within up in
    passed_by bits c.args.level.height c.args.j c.args.need _ c.requires.within c.requires.need up (omega (arith, ints, s, c.node-node.ensures.total))
