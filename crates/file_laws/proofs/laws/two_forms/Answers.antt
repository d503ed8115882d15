use Rattle.file_laws.proofs.Lengths.{lawful_form}
use Rattle.file_laws.proofs.laws.two_forms.Goals as goal

pub returns : goal.returns
returns c = lawful_form
