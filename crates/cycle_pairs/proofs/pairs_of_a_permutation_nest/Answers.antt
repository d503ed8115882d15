use Rattle.cycle_pairs.proofs.Laws.{restricted}
use Rattle.cycle_pairs.proofs.pairs_of_a_permutation_nest.Goals as goal

pub returns : goal.returns
returns c = restricted
