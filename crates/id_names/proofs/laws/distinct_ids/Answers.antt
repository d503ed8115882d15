use Rattle.id_names.proofs.NumberLaws.{names_pass, names_from_test}
use Rattle.id_names.proofs.laws.distinct_ids.Goals as goal

pub returns : goal.returns
returns c = record { test = λ bound ids. (names_from_test bound ids, names_pass bound ids) }
