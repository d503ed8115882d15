use Rattle.file_laws.proofs.Agreement.{whole_agrees}
use Rattle.file_laws.proofs.laws.whole_agrees.Goals as goal

pub returns : goal.returns
returns c = whole_agrees
