use Rattle.cycle_pairs.proofs.Laws.{half, whole}
use Rattle.cycle_pairs.proofs.whole_pairings_nest.Goals as goal

pub returns-clause-half : goal.returns-clause-half
returns-clause-half c = half

pub returns-clause-nests : goal.returns-clause-nests
returns-clause-nests c = whole
