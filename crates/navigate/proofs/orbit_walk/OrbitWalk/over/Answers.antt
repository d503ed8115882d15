use Rattle.code_laws.specs.Code.{step}
use Rattle.pemb_file.specs.Served.{contents_of_view}
use Rattle.navigate.specs.OrbitWalk.{positions_left}
use Rattle.navigate.proofs.Walking.{walk-none}
use Rattle.std.proofs.Common.{false}
use Rattle.navigate.proofs.orbit_walk.OrbitWalk.over.Goals as goal

pub returns-clause-positions : goal.returns-clause-positions
unfolding positions_left
returns-clause-positions c = walk-none (step (contents_of_view c.args.served).code false) 0 0
