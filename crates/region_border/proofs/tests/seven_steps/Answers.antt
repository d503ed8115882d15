use Rattle.std.proofs.Common.{ap, sym, ◌∙◌, List, ℤ}
use Rattle.std.specs.Prelude.{map}
use Rattle.plane_model.specs.Sets.{has}
use Rattle.region_border.specs.BorderWalk.{contents_in}
use Rattle.region_border.specs.Numbered.{mark_of}
use Rattle.region_border.proofs.tests.seven_steps.Goals as goal

pub step-requires-clause-marks : goal.step-requires-clause-marks
step-requires-clause-marks g c = λ j. c.requires.empty j ∙ ap (λ (ds : List ℤ). has (map (mark_of (contents_in c.in-Some.walk)) ds) j) (sym c.in-Some.ensures.given)
