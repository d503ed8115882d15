use Rattle.std.proofs.Common.{sym, ap, ◌∙◌}
use Rattle.std.specs.Prelude.{is_none}
use Rattle.plane_model.proofs.FaultParts.{none-least_twice}
use Rattle.id_index.proofs.FirstRows.{first_row-here, first_row-at}
use Rattle.id_index.proofs.laws.distinct_ids.Goals as goal

pub returns-clause-test : goal.returns-clause-test
returns-clause-test c = λ ids index is. ap is_none is.repeated ∙ none-least_twice ids

pub returns-clause-inverse : goal.returns-clause-inverse
returns-clause-inverse c = λ ids index is apart id row. (λ e. first_row-here ids id row (sym (is.rows id) ∙ e), λ e. is.rows id ∙ first_row-at ids id row apart e)
