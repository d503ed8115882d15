use Rattle.std.proofs.Common.{get_or, refl}
use Rattle.id_names.proofs.NumberLaws.{number_of-found, number_of-missing, number_of-at}
use Rattle.id_names.proofs.laws.numbers_and_ids.Goals as goal

pub returns-clause-found : goal.returns-clause-found
returns-clause-found c = number_of-found

pub returns-clause-missing : goal.returns-clause-missing
returns-clause-missing c = number_of-missing

pub returns-clause-inverse : goal.returns-clause-inverse
returns-clause-inverse c = λ ids names k h. number_of-at ids k (get_or ids k 0) names h refl
