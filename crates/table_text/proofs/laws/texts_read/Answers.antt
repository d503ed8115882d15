use Rattle.table_text.proofs.RowsBack.{distinct_parts, within_parts}
use Rattle.table_text.proofs.WholeTexts.{nodes_read, edges_read, faces_read, regions_read, members_read, all_read}
use Rattle.table_text.proofs.laws.texts_read.Goals as goal

pub returns-clause-nodes : goal.returns-clause-nodes
returns-clause-nodes c = λ t range h. nodes_read t (distinct_parts t h) (within_parts t range)

pub returns-clause-edges : goal.returns-clause-edges
returns-clause-edges c = λ t range h. edges_read t (distinct_parts t h) (within_parts t range)

pub returns-clause-faces : goal.returns-clause-faces
returns-clause-faces c = λ t range h. faces_read t (distinct_parts t h) (within_parts t range)

pub returns-clause-regions : goal.returns-clause-regions
returns-clause-regions c = λ t range h. regions_read t (distinct_parts t h) (within_parts t range)

pub returns-clause-members : goal.returns-clause-members
returns-clause-members c = λ t range h. members_read t (distinct_parts t h) (within_parts t range)

pub returns-clause-all : goal.returns-clause-all
returns-clause-all c = λ t range h. all_read t (distinct_parts t h) (within_parts t range)
