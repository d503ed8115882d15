use Rattle.disjoint_sets.proofs.Joining.{alone_sets, joined_length, joined_sets}
use Rattle.disjoint_sets.proofs.laws.are_sets.Goals as goal

pub returns-clause-alone : goal.returns-clause-alone
returns-clause-alone c = alone_sets

pub returns-clause-joined : goal.returns-clause-joined
returns-clause-joined c = joined_sets

pub returns-clause-length : goal.returns-clause-length
returns-clause-length c = joined_length
