use Rattle.disjoint_sets.proofs.Joining.{joined_same}
use Rattle.disjoint_sets.proofs.laws.joined_members.Goals as goal

pub returns : goal.returns
returns c = joined_same
