use Rattle.std.proofs.Common.{◌≡◌, ◌≤◌, ◌+◌, length}
use Rattle.navigate.specs.OrbitWalk.{rest, allowance}
use Rattle.map_totals.proofs.items.count_node.Given as goal

abbrev pub invariant-loop-edge : goal.invariant-loop-edge
invariant-loop-edge g l =
    (l.count + length (rest l.walk) ≡ length (rest l.fn.walk)) × (l.fn.steps + l.count ≤ l.steps) × (l.steps + allowance l.walk ≤ l.fn.steps + allowance l.fn.walk)

abbrev pub decreases-loop-edge : goal.decreases-loop-edge
decreases-loop-edge g l = length (rest l.walk)
