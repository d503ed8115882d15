use Rattle.std.proofs.Common.{◌≡◌, ◌<◌, ◌≤◌, ℕ, true}
use Rattle.islands.specs.Rounds.{is_marked}
use Rattle.islands.proofs.faults.first_bare_face.Given as goal

abbrev pub invariant-loop-number : goal.invariant-loop-number
invariant-loop-number l = (j : ℕ) → 1 ≤ j → j < l.number → is_marked l.on_ring j ≡ true
