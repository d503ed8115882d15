use Rattle.placement_laws.proofs.Accepted.{placed_of, outer_of}
use Rattle.placement_laws.proofs.laws.placing_gives_placed.Goals as goal

pub returns-clause-placed : goal.returns-clause-placed
returns-clause-placed c = λ t starts h p. placed_of t starts h p

pub returns-clause-outer : goal.returns-clause-outer
returns-clause-outer c = λ t starts r h p. outer_of t starts h p r
