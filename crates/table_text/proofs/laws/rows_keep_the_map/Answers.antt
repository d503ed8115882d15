use Rattle.table_text.proofs.RowsBack.{rows_same, in_range_again, consistent_again, consistent_distinct}
use Rattle.table_text.proofs.ReadBack.{rows_accepted}
use Rattle.table_text.proofs.laws.rows_keep_the_map.Goals as goal

pub returns-clause-same : goal.returns-clause-same
returns-clause-same c = λ t h. rows_same t h

pub returns-clause-in_range : goal.returns-clause-in_range
returns-clause-in_range c = λ t range h. in_range_again t range h

pub returns-clause-consistent : goal.returns-clause-consistent
returns-clause-consistent c = λ t h. consistent_again t h

pub returns-clause-has_map : goal.returns-clause-has_map
returns-clause-has_map c = λ t h. consistent_distinct t h

pub returns-clause-accepted : goal.returns-clause-accepted
returns-clause-accepted c = λ t range k. rows_accepted t range k
