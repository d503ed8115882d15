use Rattle.cycle_pairs.proofs.Values.{values_few, values_many}
use Rattle.cycle_pairs.proofs.listed_colours.Goals as goal

pub returns-clause-few : goal.returns-clause-few
returns-clause-few c = values_few

pub returns-clause-all : goal.returns-clause-all
returns-clause-all c = values_many
