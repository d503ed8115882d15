use Rattle.code_laws.specs.Code.{step}
use Rattle.pemb_file.specs.Served.{contents_of_view}
use Rattle.navigate.specs.OrbitWalk.{positions_left}
use Rattle.navigate.proofs.Walking.{walk-no}
use Rattle.navigate.proofs.orbit_walk.OrbitWalk.across_once.Goals as goal

pub returns-then-self-eq0-clause-next : goal.returns-then-self-eq0-clause-next
unfolding positions_left
returns-then-self-eq0-clause-next g c = let w = c.args.self.now in walk-no w.left (step (contents_of_view w.served).code w.kind) w.first w.at c.if-self-eq0.true

pub returns-then-self-eq0-clause-within : goal.returns-then-self-eq0-clause-within
unfolding positions_left
returns-then-self-eq0-clause-within g c = let w = c.args.self.now in walk-no w.left (step (contents_of_view w.served).code w.kind) w.first w.at c.if-self-eq0.true

pub returns-clause-next : goal.returns-clause-next
unfolding positions_left
returns-clause-next g c = c.go_on.ensures.left
