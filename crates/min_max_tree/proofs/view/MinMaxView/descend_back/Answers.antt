use Rattle.std.proofs.Common.{arith}
use Rattle.min_max_tree.specs.MinMaxView.{searched}
use Rattle.min_max_tree.proofs.Backs.{leads_back_on, leads_back_none}
use Rattle.min_max_tree.proofs.view.MinMaxView.descend_back.Goals as goal

pub loop-spot-init : goal.loop-spot-init
loop-spot-init g c = record {
  leads = leads_back_none (searched c.args.self.now) c.args.from c.requires.spot;
  grows = omega arith;
  steps = omega arith;
}

pub loop-spot-preserved : goal.loop-spot-preserved
loop-spot-preserved g c = record {
  leads = leads_back_on (searched c.args.self.now) _ _ c.loop-spot.spot c.child_back-spot.result c.loop-spot.invariant.leads c.child_back-spot.ensures.leads;
  grows = omega arith;
  steps = omega arith;
}

pub child_back-spot-requires-clause-small : goal.child_back-spot-requires-clause-small
child_back-spot-requires-clause-small g c =
    let bits = searched c.args.self.now in
    let f = c.loop-spot.invariant.leads.remains.few in
    let few = c.args.self.now.few in
    omega arith
