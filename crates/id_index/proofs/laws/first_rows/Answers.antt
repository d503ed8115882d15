use Rattle.std.proofs.Common.{sym, ◌∙◌}
use Rattle.id_index.proofs.FirstRows.{first_row-first}
use Rattle.id_index.proofs.Indexes.{index-has, index_there}
use Rattle.id_index.proofs.laws.first_rows.Goals as goal

pub returns-clause-here : goal.returns-clause-here
returns-clause-here c = λ ids index is id row e. index_there ids index id row is e

pub returns-clause-first : goal.returns-clause-first
returns-clause-first c = λ ids index is id row e. first_row-first ids id row (sym (is.rows id) ∙ e)

pub returns-clause-known : goal.returns-clause-known
returns-clause-known c = λ ids index is id. index-has ids index id is
