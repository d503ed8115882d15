use Rattle.std.proofs.Common.{sym, ◌∙◌, ap, List, ℕ}
use Rattle.plane_model.specs.Sets.{has}
use Rattle.map_totals.proofs.early_close.closes_after.Goals as goal

pub gives_first-right-requires-clause-marks : goal.gives_first-right-requires-clause-marks
gives_first-right-requires-clause-marks g c = λ j. c.requires.empty j ∙ ap (λ (xs : List ℕ). has xs j) (sym c.in-Some.ensures.places)
