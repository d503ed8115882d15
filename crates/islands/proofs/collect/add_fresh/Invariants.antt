use Rattle.std.proofs.Common.{◌≡◌, ◌≤◌, ◌++◌, length}
use Rattle.std.specs.List.{filter}
use Rattle.islands.specs.Lists.{chain, listed}
use Rattle.islands.specs.Rounds.{is_fresh}
use Rattle.islands.proofs.collect.add_fresh.Given as goal

abbrev pub invariant-loop-left : goal.invariant-loop-left
invariant-loop-left l = record {
  within : l.left ≤ length l.on_face.before.items;
  added : l.now.items ++ filter (is_fresh l.components l.reached) (chain l.on_face.before.items l.left) ≡ l.initial.now.items ++ filter (is_fresh l.components l.reached) (listed l.on_face.last.items l.on_face.before.items l.face);
}

abbrev pub decreases-loop-left : goal.decreases-loop-left
decreases-loop-left l = l.left
