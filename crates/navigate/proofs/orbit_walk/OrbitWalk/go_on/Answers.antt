use Rattle.code_laws.specs.Code.{step}
use Rattle.pemb_file.specs.Served.{contents_of_view}
use Rattle.navigate.specs.OrbitWalk.{positions_left}
use Rattle.navigate.proofs.Walking.{walk-last, walk-more}
use Rattle.std.proofs.Common.{arith}
use Rattle.navigate.proofs.orbit_walk.OrbitWalk.go_on.Goals as goal

pub returns-then-next-self-clause-left : goal.returns-then-next-self-clause-left
unfolding positions_left
returns-then-next-self-clause-left c =
    let w = c.args.self.now in
    walk-last w.left (step (contents_of_view w.served).code w.kind) w.first w.at c.args.next c.requires.some c.requires.next c.if-next-self.true w.at

pub returns-else-next-self-clause-left : goal.returns-else-next-self-clause-left
unfolding positions_left
returns-else-next-self-clause-left c =
    let w = c.args.self.now in
    walk-more w.left _ (step (contents_of_view w.served).code w.kind) w.first w.at c.args.next (omega arith) c.requires.next c.if-next-self.false
