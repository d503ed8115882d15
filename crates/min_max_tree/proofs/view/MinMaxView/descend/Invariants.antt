use Rattle.std.proofs.Common.{◌≤◌, ◌+◌}
use Rattle.min_max_tree.specs.MinMaxView.{searched}
use Rattle.min_max_tree.specs.Tree.{node_from}
use Rattle.min_max_tree.specs.Level.{LeadsTo}
use Rattle.min_max_tree.proofs.view.MinMaxView.descend.Given as goal

abbrev pub invariant-loop-spot : goal.invariant-loop-spot
invariant-loop-spot g l = record {
  leads : LeadsTo (searched l.self) (node_from l.fn.from.level.height l.fn.from.j) l.fn.from.need l.spot;
  grows : l.initial.steps ≤ l.steps;
  steps : l.steps + l.spot.level.height ≤ l.initial.steps + l.fn.from.level.height;
}

abbrev pub decreases-loop-spot : goal.decreases-loop-spot
decreases-loop-spot g l = l.spot.level.height
