use Rattle.std.proofs.Common.{true, false}
use Rattle.turan_code.proofs.Views.{chosen, chosen_within}
use Rattle.turan_code.proofs.view.TuranView.position.Goals as goal

pub returns-then-kind-clause-position : goal.returns-then-kind-clause-position
returns-then-kind-clause-position g c = chosen c.args.kind true _ _ _ c.if-kind.true c.select1.ensures.selected

pub returns-else-kind-clause-position : goal.returns-else-kind-clause-position
returns-else-kind-clause-position g c = chosen c.args.kind false _ _ _ c.if-kind.false c.select0.ensures.selected

pub returns-then-kind-clause-within : goal.returns-then-kind-clause-within
returns-then-kind-clause-within g c = chosen_within true _ _ _ c.select1.ensures.selected

pub returns-else-kind-clause-within : goal.returns-else-kind-clause-within
returns-else-kind-clause-within g c = chosen_within false _ _ _ c.select0.ensures.selected
