use Rattle.file_laws.specs.Layout.{sections}
use Rattle.pemb_file.proofs.layout.Header.sections.Goals as goal

pub returns : goal.returns
unfolding sections
returns c = cc
