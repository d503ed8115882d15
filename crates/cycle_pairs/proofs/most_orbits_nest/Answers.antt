use Rattle.cycle_pairs.proofs.Laws.{few_orbits, nests_exactly}
use Rattle.cycle_pairs.proofs.most_orbits_nest.Goals as goal

pub returns-clause-few : goal.returns-clause-few
returns-clause-few c = few_orbits

pub returns-clause-nests : goal.returns-clause-nests
returns-clause-nests c = nests_exactly
