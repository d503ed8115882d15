use Rattle.std.proofs.Common.{refl}
use Rattle.min_max_tree.proofs.Levels.{IsLevel-lowest}
use Rattle.min_max_tree.proofs.level.Level.lowest.Goals as goal

pub returns-clause-level : goal.returns-clause-level
returns-clause-level c len = IsLevel-lowest len _ refl refl refl
