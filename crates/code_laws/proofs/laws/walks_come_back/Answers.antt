use Rattle.std.proofs.Common.{true, false}
use Rattle.code_laws.proofs.Walked.{length-picked, first_of_walk}
use Rattle.code_laws.proofs.laws.walks_come_back.Goals as goal

pub returns-clause-sizes : goal.returns-clause-sizes
returns-clause-sizes c tree first starts same true = length-picked true tree first same
returns-clause-sizes c tree first starts same false = length-picked false tree first same

pub returns-clause-firsts : goal.returns-clause-firsts
returns-clause-firsts c = first_of_walk
