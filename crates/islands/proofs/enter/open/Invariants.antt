use Rattle.std.proofs.Common.{◌≡◌, ◌≤◌, ◌++◌, ℕ, List, length}
use Rattle.islands.specs.Lists.{chain, listed}
use Rattle.islands.specs.Rounds.{AreAllEntered}
use Rattle.islands.proofs.enter.open.Given as goal

abbrev pub invariant-loop-left : goal.invariant-loop-left
invariant-loop-left l = record {
  within : l.left ≤ length l.in_component.before.items;
  entered : (done : List ℕ) × (done ++ chain l.in_component.before.items l.left ≡ listed l.in_component.last.items l.in_component.before.items l.component) × AreAllEntered l.faces done l.initial.entered.items l.entered.items l.initial.next.items l.next.items;
}

abbrev pub decreases-loop-left : goal.decreases-loop-left
decreases-loop-left l = l.left
