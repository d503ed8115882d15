use Rattle.table_text.proofs.RowsBack.{distinct_parts, within_parts}
use Rattle.table_text.proofs.Lengths.{node_text_length, edge_text_length, face_text_length, region_text_length, member_text_length, each_text_length}
use Rattle.table_text.proofs.laws.text_lengths.Goals as goal

pub returns-clause-nodes : goal.returns-clause-nodes
returns-clause-nodes c = λ t range h. node_text_length t (distinct_parts t h) (within_parts t range)

pub returns-clause-edges : goal.returns-clause-edges
returns-clause-edges c = λ t range h. edge_text_length t (distinct_parts t h) (within_parts t range)

pub returns-clause-faces : goal.returns-clause-faces
returns-clause-faces c = λ t range h. face_text_length t (distinct_parts t h) (within_parts t range)

pub returns-clause-regions : goal.returns-clause-regions
returns-clause-regions c = λ t range h. region_text_length t (distinct_parts t h) (within_parts t range)

pub returns-clause-members : goal.returns-clause-members
returns-clause-members c = λ t range h. member_text_length t (distinct_parts t h) (within_parts t range)

pub returns-clause-all : goal.returns-clause-all
returns-clause-all c = λ t which range h few. each_text_length t which (distinct_parts t h) (within_parts t range) few
