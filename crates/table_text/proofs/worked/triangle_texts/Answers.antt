use Rattle.std.proofs.Common.{refl}
use Rattle.std.specs.Fmt.{digits}
use Rattle.plane_model.specs.Sets.{put, rising}
use Rattle.table_text.proofs.worked.triangle_texts.Goals as goal

pub returns-clause-nodes : goal.returns-clause-nodes
unfolding digits put rising
returns-clause-nodes c = refl

pub returns-clause-edges : goal.returns-clause-edges
unfolding digits put rising
returns-clause-edges c = refl

pub returns-clause-faces : goal.returns-clause-faces
unfolding digits put rising
returns-clause-faces c = refl

pub returns-clause-regions : goal.returns-clause-regions
unfolding digits put rising
returns-clause-regions c = refl

pub returns-clause-members : goal.returns-clause-members
unfolding digits put rising
returns-clause-members c = refl
