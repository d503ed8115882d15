use Rattle.std.proofs.Common.{refl}
use Rattle.navigate.specs.IslandWalk.{rest}
use Rattle.navigate.proofs.inside.IslandWalk.between.Goals as goal

pub returns-clause-rest : goal.returns-clause-rest
unfolding rest
returns-clause-rest c = refl
