use Rattle.islands.proofs.Regardless.{same_outer, same_fault, same_placed, faces_of_system}
use Rattle.islands.proofs.laws.other_tables.Goals as goal

pub returns-clause-asked : goal.returns-clause-asked
returns-clause-asked c t system = faces_of_system t system

pub returns-clause-placed : goal.returns-clause-placed
returns-clause-placed c t = same_placed t

pub returns-clause-outer : goal.returns-clause-outer
returns-clause-outer c t = same_outer t

pub returns-clause-fault : goal.returns-clause-fault
returns-clause-fault c t = same_fault t
