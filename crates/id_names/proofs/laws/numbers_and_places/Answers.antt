use Rattle.id_names.proofs.NameLaws.{ordered, walk_there, one_number}
use Rattle.id_names.proofs.laws.numbers_and_places.Goals as goal

pub returns-clause-place : goal.returns-clause-place
returns-clause-place c = λ p high_counts mark_counts right k h. let n = ordered p high_counts mark_counts right k h in (n.within, n.found)

pub returns-clause-number : goal.returns-clause-number
returns-clause-number c = walk_there

pub returns-clause-one : goal.returns-clause-one
returns-clause-one c = one_number
