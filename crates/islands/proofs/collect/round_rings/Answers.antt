use Rattle.islands.specs.Lists.{listed}
use Rattle.islands.proofs.Collected.{round_of}
use Rattle.islands.proofs.collect.round_rings.Goals as goal

pub returns : goal.returns
returns c faces by_face =
    round_of faces c.args.components.now c.args.front.now c.args.reached.now (listed c.args.on_face.now.last.items c.args.on_face.now.before.items) c.in_ok-found.found.items c.rising.result.items
    c.in_ok-found.ensures c.rising.ensures.increasing c.rising.ensures.all c.rising.ensures.only by_face
