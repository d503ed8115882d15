use Rattle.std.proofs.Common.{ap, subst, sym, length}
use Rattle.region_tree.specs.Ancestors.{IsFarUp, IsLeastOf}
use Rattle.region_tree.proofs.OnCycles.{least-on_cycle}
use Rattle.region_tree.proofs.cycles.least_on_cycle.Goals as goal

pub returns : goal.returns
returns c = least-on_cycle c.args.parents.now c.requires.places c.deref.result.now c.least.result (subst (IsFarUp c.args.parents.now) (sym c.deref.ensures.value) c.in_ok-far_up.ensures) c.least.ensures
