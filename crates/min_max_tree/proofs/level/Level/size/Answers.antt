use Rattle.std.proofs.Common.{arith}
use Rattle.min_max_tree.proofs.Levels.{span-le, height-few}
use Rattle.min_max_tree.proofs.level.Level.size.Goals as goal

pub overflow_add-result : goal.overflow_add-result
overflow_add-result c =
    let l = span-le c.args.len c.args.self.now.height c.requires.level.reached in
    let e = c.requires.level.span in
    omega arith

pub overflow_shr-result : goal.overflow_shr-result
overflow_shr-result c = omega (arith, height-few c.args.len c.args.self.now.height c.requires.few c.requires.level.reached)
