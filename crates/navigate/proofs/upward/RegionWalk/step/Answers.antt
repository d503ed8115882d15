use Rattle.std.proofs.Common.{arith}
use Rattle.region_tree.specs.RegionView.{regions_of}
use Rattle.navigate.specs.RegionWalk.{contents_in, ids_up, rest, allowance}
use Rattle.navigate.proofs.RegionLaws.{ended, ids_next, digits_tree, digits_ids, up_paid}
use Rattle.navigate.proofs.upward.RegionWalk.step.Goals as goal

pub returns-in_err-region-clause-next : goal.returns-in_err-region-clause-next
returns-in_err-region-clause-next g c = rw c.from_residual.ensures (ended c.args.self.now c.in_err-region.was)

pub returns-in_err-region-clause-end : goal.returns-in_err-region-clause-end
returns-in_err-region-clause-end g c = λ _. ended c.args.self.now c.in_err-region.was

pub returns-clause-next : goal.returns-clause-next
unfolding rest
returns-clause-next g c =
    let v = c.args.self.now in
    ids_next (contents_in v) v.served.whole (regions_of c.regions-regions.result) v.next c.parent-self.result c.in_ok-region.region c.id_of-id.result c.regions-regions.ensures c.in_ok-region.was (v.within c.in_ok-region.region c.in_ok-region.was) c.id_of-id.ensures.id
    c.parent-self.ensures.parent

pub returns-clause-paid : goal.returns-clause-paid
unfolding rest allowance
returns-clause-paid g c =
    let v = c.args.self.now in
    let m = contents_in v in
    let d = digits_tree m v.served.whole (regions_of c.regions-regions.result) c.regions-regions.ensures in
    let k = digits_ids m v.served.whole (regions_of c.regions-regions.result) c.regions-regions.ensures in
    let next = ids_next m v.served.whole (regions_of c.regions-regions.result) v.next c.parent-self.result c.in_ok-region.region c.id_of-id.result c.regions-regions.ensures c.in_ok-region.was (v.within c.in_ok-region.region c.in_ok-region.was) c.id_of-id.ensures.id
    c.parent-self.ensures.parent in
    up_paid m (ids_up m v.next) (ids_up m c.parent-self.result) c.id_of-id.result c.args.steps.now c.parent-self.new.steps next (omega (arith, d, k, c.id_of-id.ensures.cost, c.parent-self.ensures.cost))
