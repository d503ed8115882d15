use Rattle.placement_laws.proofs.Placed.{placing_of}
use Rattle.placement_laws.proofs.laws.placed_gives_placing.Goals as goal

pub returns : goal.returns
returns c = λ t h placed. placing_of t h placed
