use Rattle.disjoint_sets.proofs.SetLaws.{number_below, number_reached, number_rises, numbers_length, same_number}
use Rattle.disjoint_sets.proofs.laws.numbers_of_sets.Goals as goal

pub returns-clause-length : goal.returns-clause-length
returns-clause-length c = numbers_length

pub returns-clause-same : goal.returns-clause-same
returns-clause-same c = same_number

pub returns-clause-below : goal.returns-clause-below
returns-clause-below c = number_below

pub returns-clause-each : goal.returns-clause-each
returns-clause-each c = number_reached

pub returns-clause-order : goal.returns-clause-order
returns-clause-order c = number_rises
