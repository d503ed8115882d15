use Rattle.std.proofs.Common.{refl}
use Rattle.navigate.specs.RegionWalk.{rest}
use Rattle.navigate.proofs.upward.RegionWalk.from.Goals as goal

pub returns-clause-rest : goal.returns-clause-rest
unfolding rest
returns-clause-rest c = refl
