use Rattle.cycle_pairs.proofs.Orbits.{after_permuted}
use Rattle.cycle_pairs.proofs.steps_permute.Goals as goal

pub returns : goal.returns
returns c = after_permuted
