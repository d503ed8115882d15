use Rattle.std.proofs.Common.{◌≡◌, ◌≤◌, length}
use Rattle.topo_serve.specs.Ahead.{behind, AreNext}
use Rattle.topo_serve.proofs.ahead.lines_from.Given as goal

-- the lines so far are the next, and what stands behind them is left
abbrev pub invariant-loop-rest : goal.invariant-loop-rest
invariant-loop-rest l = record {
  next : AreNext l.lines.items l.script;
  left : behind l.lines.items l.script ≡ l.rest;
  some : 1 ≤ length l.lines.items;
  within : length l.rest ≤ length l.script;
}

abbrev pub decreases-loop-rest : goal.decreases-loop-rest
decreases-loop-rest l = length l.rest
