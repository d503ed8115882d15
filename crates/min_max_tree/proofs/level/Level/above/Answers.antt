use Rattle.std.proofs.Common.{refl, ap, ◌+◌}
use Rattle.min_max_tree.proofs.Levels.{IsLevel-above}
use Rattle.min_max_tree.proofs.level.Level.above.Goals as goal

pub returns-clause-level : goal.returns-clause-level
returns-clause-level c = IsLevel-above c.args.len c.args.self.now _ c.requires.level c.requires.more refl refl (ap (λ x. c.args.self.now.start + x) c.size.ensures)
