use Rattle.cycle_pairs.proofs.Laws.{few_colours, most_colours}
use Rattle.cycle_pairs.proofs.most_colours_nest.Goals as goal

pub returns-clause-few : goal.returns-clause-few
returns-clause-few c = few_colours

pub returns-clause-nests : goal.returns-clause-nests
returns-clause-nests c = most_colours
