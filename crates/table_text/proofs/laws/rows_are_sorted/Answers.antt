use Rattle.table_text.proofs.RowsBack.{distinct_parts, nodes_sorted, edges_sorted, faces_sorted, regions_sorted, members_sorted}
use Rattle.table_text.proofs.laws.rows_are_sorted.Goals as goal

pub returns-clause-nodes : goal.returns-clause-nodes
returns-clause-nodes c = λ t h. nodes_sorted t (distinct_parts t h)

pub returns-clause-edges : goal.returns-clause-edges
returns-clause-edges c = λ t h. edges_sorted t (distinct_parts t h)

pub returns-clause-faces : goal.returns-clause-faces
returns-clause-faces c = λ t h. faces_sorted t (distinct_parts t h)

pub returns-clause-regions : goal.returns-clause-regions
returns-clause-regions c = λ t h. regions_sorted t (distinct_parts t h)

pub returns-clause-members : goal.returns-clause-members
returns-clause-members c = λ t h. members_sorted t (distinct_parts t h)
