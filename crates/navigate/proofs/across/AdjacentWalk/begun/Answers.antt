use Rattle.std.proofs.Common.{refl}
use Rattle.navigate.specs.AdjacentWalk.{rest, allowance}
use Rattle.navigate.proofs.across.AdjacentWalk.begun.Goals as goal

pub returns-clause-rest : goal.returns-clause-rest
unfolding rest
returns-clause-rest c = refl

pub returns-clause-paid : goal.returns-clause-paid
unfolding allowance
returns-clause-paid c = refl
