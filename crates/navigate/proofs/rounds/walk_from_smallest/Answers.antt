use Rattle.std.proofs.Common.{◌∙◌, ap, length}
use Rattle.code_laws.specs.Orbits.{orbit}
use Rattle.navigate.specs.Least.{smallest_of}
use Rattle.pemb_file.specs.Served.{contents_of_view}
use Rattle.navigate.proofs.Resting.{rest-at}
use Rattle.navigate.proofs.Facts.{sound_code}
use Rattle.navigate.proofs.OrbitLengths.{smallest-length, making_paid}
use Rattle.navigate.proofs.rounds.walk_from_smallest.Goals as goal

pub returns-clause-list : goal.returns-clause-list
returns-clause-list g c =
    let m = contents_of_view c.args.served in
    let walk = c.begun_at_smallest in
    rest-at walk.result m (orbit m.code c.args.kind (smallest_of m c.args.kind c.args.p)) walk.ensures.contents walk.ensures.positions

pub returns-clause-paid : goal.returns-clause-paid
returns-clause-paid g c =
    let m = contents_of_view c.args.served in
    let walk = c.begun_at_smallest in
    let list = rest-at walk.result m (orbit m.code c.args.kind (smallest_of m c.args.kind c.args.p)) walk.ensures.contents walk.ensures.positions in
    let long = ap length list ∙ smallest-length m (sound_code m c.args.served.whole) c.args.kind c.args.p c.requires walk.ensures.within in
    making_paid walk.result m (length (orbit m.code c.args.kind c.args.p)) c.args.steps.now walk.new.steps walk.ensures.contents long walk.ensures.cost
