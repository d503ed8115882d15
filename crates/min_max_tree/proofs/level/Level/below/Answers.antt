use Rattle.std.proofs.Common.{arith, refl, ap, ◌-◌}
use Rattle.min_max_tree.proofs.Levels.{start-falls, height-few, IsLevel-below}
use Rattle.min_max_tree.proofs.level.Level.below.Goals as goal

pub overflow_shr-result : goal.overflow_shr-result
overflow_shr-result c = omega (arith, height-few c.args.len c.args.self.now.height c.requires.few c.requires.level.reached)

pub overflow_sub-result-3 : goal.overflow_sub-result-3
overflow_sub-result-3 c = (start-falls c.args.len c.args.self.now.span c.args.self.now.start c.args.self.now.height c.requires.more c.requires.level.span c.requires.level.start).1

pub returns-clause-level : goal.returns-clause-level
returns-clause-level c =
    let f = start-falls c.args.len c.args.self.now.span c.args.self.now.start c.args.self.now.height c.requires.more c.requires.level.span c.requires.level.start in
    IsLevel-below c.args.len c.args.self.now _ c.requires.level (omega arith) refl (ap (λ x. c.args.self.now.start - x) f.0)
