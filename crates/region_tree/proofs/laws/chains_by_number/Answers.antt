use Rattle.region_tree.proofs.ByNumber.{chain-number, common-regions}
use Rattle.region_tree.proofs.laws.chains_by_number.Goals as goal

pub returns-clause-chain : goal.returns-clause-chain
returns-clause-chain c = λ m bits ids x are l. chain-number m bits ids are x l

pub returns-clause-common : goal.returns-clause-common
returns-clause-common c = λ m bits ids x y are lx ly. common-regions m bits ids are x y lx ly
