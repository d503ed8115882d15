use Rattle.std.proofs.Common.{arith, length}
use Rattle.min_max_tree.proofs.Nodes.{node-there}
use Rattle.min_max_tree.specs.MinMaxView.{searched}
use Rattle.min_max_tree.proofs.Climb.{leads_on, leads_none}
use Rattle.min_max_tree.proofs.view.MinMaxView.descend.Goals as goal

pub loop-spot-init : goal.loop-spot-init
loop-spot-init g c = record {
  leads = leads_none (searched c.args.self.now) c.args.from c.requires.spot;
  grows = omega arith;
  steps = omega arith;
}

pub loop-spot-preserved : goal.loop-spot-preserved
loop-spot-preserved g c = record {
  leads = leads_on (searched c.args.self.now) _ _ c.loop-spot.spot c.child-spot.result c.loop-spot.invariant.leads c.child-spot.ensures.leads;
  grows = omega arith;
  steps = omega arith;
}

pub child-spot-requires-clause-small : goal.child-spot-requires-clause-small
child-spot-requires-clause-small g c =
    let bits = searched c.args.self.now in
    let i = c.loop-spot.invariant.leads in
    let f = i.rests.few in
    let t = node-there (length bits) c.loop-spot.spot.level.height c.loop-spot.spot.j i.is_spot.within in
    let few = c.args.self.now.few in
    omega arith
