use Rattle.std.proofs.Common.{sym, ◌∙◌, ap, ℕ, List}
use Rattle.plane_model.specs.Sets.{has}
use Rattle.map_totals.proofs.walks.two_neighbours.Goals as goal

pub step-first-requires-clause-marks : goal.step-first-requires-clause-marks
step-first-requires-clause-marks g c = λ j. c.requires.empty j ∙ ap (λ (xs : List ℕ). has xs j) (sym c.in-Some.ensures.places)
