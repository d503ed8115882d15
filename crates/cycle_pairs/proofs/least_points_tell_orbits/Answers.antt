use Rattle.cycle_pairs.proofs.Orbits.{least_of_meet, meet_of_least}
use Rattle.cycle_pairs.proofs.least_points_tell_orbits.Goals as goal

pub returns : goal.returns
returns c = λ n step i j p il jl. (least_of_meet n step p i j il jl, meet_of_least n step p i j)
