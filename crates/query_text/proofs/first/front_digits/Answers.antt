use Rattle.query_text.proofs.Ended.{none_yet}
use Rattle.query_text.proofs.first.front_digits.Goals as goal

pub returns-in-None-clause-number : goal.returns-in-None-clause-number
returns-in-None-clause-number c = none_yet
