use Rattle.placement_laws.proofs.Tables.{labelled_rotation_of}
use Rattle.placement_laws.proofs.laws.labelled_rotation.Goals as goal

pub returns : goal.returns
returns c = λ t range system labelled. labelled_rotation_of t range system labelled
