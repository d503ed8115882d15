use Rattle.file_laws.proofs.Consistent.{outer_of}
use Rattle.file_laws.proofs.laws.starts_are_outer_rings.Goals as goal

pub returns : goal.returns
returns c = λ contents r h. outer_of contents h r
