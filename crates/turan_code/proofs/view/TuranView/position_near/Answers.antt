use Rattle.std.proofs.Common.{true, false}
use Rattle.turan_code.proofs.Views.{chosen, chosen_within, chosen_place}
use Rattle.turan_code.proofs.view.TuranView.position_near.Goals as goal

pub returns-then-kind-clause-position : goal.returns-then-kind-clause-position
returns-then-kind-clause-position g c = chosen c.args.kind true _ _ _ c.if-kind.true c.select1_near.ensures.selected

pub returns-else-kind-clause-position : goal.returns-else-kind-clause-position
returns-else-kind-clause-position g c = chosen c.args.kind false _ _ _ c.if-kind.false c.select0_near.ensures.selected

pub returns-then-kind-clause-within : goal.returns-then-kind-clause-within
returns-then-kind-clause-within g c = chosen_within true _ _ _ c.select1_near.ensures.selected

pub returns-else-kind-clause-within : goal.returns-else-kind-clause-within
returns-else-kind-clause-within g c = chosen_within false _ _ _ c.select0_near.ensures.selected

pub returns-then-kind-clause-place : goal.returns-then-kind-clause-place
returns-then-kind-clause-place g c = chosen_place c.args.kind true _ _ _ c.if-kind.true c.select1_near.ensures.selected

pub returns-else-kind-clause-place : goal.returns-else-kind-clause-place
returns-else-kind-clause-place g c = chosen_place c.args.kind false _ _ _ c.if-kind.false c.select0_near.ensures.selected
