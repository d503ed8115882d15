use Rattle.region_tree.proofs.GivenBack.{regions_back, members_given_back}
use Rattle.region_tree.proofs.laws.regions_given_back.Goals as goal

pub returns-clause-regions : goal.returns-clause-regions
returns-clause-regions c = λ t range forest. regions_back t range forest

pub returns-clause-members : goal.returns-clause-members
returns-clause-members c = λ t range forest. members_given_back t range forest
