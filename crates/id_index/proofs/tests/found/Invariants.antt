use Rattle.std.proofs.Common.{◌≤◌}
use Rattle.id_index.proofs.tests.found.Given as goal

abbrev pub invariant-loop-number : goal.invariant-loop-number
invariant-loop-number l = record { right : l.right ≤ l.number; missing : l.missing ≤ l.number }
