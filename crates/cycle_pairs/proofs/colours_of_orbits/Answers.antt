use Rattle.cycle_pairs.proofs.Laws.{colours_orbits}
use Rattle.cycle_pairs.proofs.colours_of_orbits.Goals as goal

pub returns : goal.returns
returns c = colours_orbits
