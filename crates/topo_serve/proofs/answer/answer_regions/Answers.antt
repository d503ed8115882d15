use Rattle.std.proofs.Common.{ap, map}
use Rattle.topo_base.specs.Script.{Item}
use Rattle.plane_model.specs.Answers.{after_colon}
use Rattle.navigate.specs.Bound.{served_map}
use Rattle.navigate.specs.RegionWalk as regions
use Rattle.topo_serve.proofs.Answering.{same_bytes}
use Rattle.topo_serve.proofs.Walked.{walk_known, as_items, least_known, paid_listed, by_items}
use Rattle.topo_serve.proofs.answer.answer_regions.Goals as goal

pub returns-clause-writes : goal.returns-clause-writes
returns-clause-writes g c =
    same_bytes _ _ _ _ _ (ap after_colon (walk_known c.region_walk-walk.result (λ w. map Item.Number (regions.rest w)) _ _ c.region_walk-walk.ensures.known (as_items c.region_walk-walk.result regions.rest Item.Number _ c.region_walk-walk.ensures.list))) c.list_known.ensures.writes

pub returns-clause-least : goal.returns-clause-least
returns-clause-least g c =
    least_known _ c.region_walk-walk.result (λ w. map Item.Number (regions.rest w)) _ _ _ _ (walk_known c.region_walk-walk.result (λ w. map Item.Number (regions.rest w)) _ _ c.region_walk-walk.ensures.known (as_items c.region_walk-walk.result regions.rest Item.Number _ c.region_walk-walk.ensures.list)) c.region_walk-walk.ensures.grows c.list_known.ensures.least

pub returns-clause-paid : goal.returns-clause-paid
returns-clause-paid g c =
    paid_listed (served_map c.args.served.now) c.region_walk-walk.result (λ w. map Item.Number (regions.rest w)) regions.allowance _ _ _ _ _ c.region_walk-walk.ensures.known (as_items c.region_walk-walk.result regions.rest Item.Number _ c.region_walk-walk.ensures.list)
    (by_items (served_map c.args.served.now) c.region_walk-walk.result regions.rest regions.allowance Item.Number _ _ c.region_walk-walk.ensures.paid) c.list_known.ensures.paid
