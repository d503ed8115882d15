use Rattle.std.proofs.Common.{ap}
use Rattle.plane_model.specs.Answers.{after_colon}
use Rattle.navigate.specs.Bound.{served_map}
use Rattle.navigate.specs.IslandWalk as islands
use Rattle.topo_serve.proofs.Answering.{same_bytes}
use Rattle.topo_serve.proofs.Walked.{walk_known, least_known, paid_listed}
use Rattle.topo_serve.proofs.answer.answer_islands.Goals as goal

pub returns-clause-writes : goal.returns-clause-writes
returns-clause-writes g c =
    same_bytes _ _ _ _ _ (ap after_colon (walk_known c.island_walk-walk.result islands.rest _ _ c.island_walk-walk.ensures.known c.island_walk-walk.ensures.list)) c.list_known.ensures.writes

pub returns-clause-least : goal.returns-clause-least
returns-clause-least g c =
    least_known _ c.island_walk-walk.result islands.rest _ _ _ _ (walk_known c.island_walk-walk.result islands.rest _ _ c.island_walk-walk.ensures.known c.island_walk-walk.ensures.list) c.island_walk-walk.ensures.grows c.list_known.ensures.least

pub returns-clause-paid : goal.returns-clause-paid
returns-clause-paid g c =
    paid_listed (served_map c.args.served.now) c.island_walk-walk.result islands.rest islands.allowance _ _ _ _ _ c.island_walk-walk.ensures.known c.island_walk-walk.ensures.list c.island_walk-walk.ensures.paid c.list_known.ensures.paid
