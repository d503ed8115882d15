use Rattle.std.proofs.Common.{◌≡◌, vec_len}
use Rattle.id_index.proofs.tests.mixed_ids.Given as goal

abbrev pub invariant-loop-row : goal.invariant-loop-row
invariant-loop-row l = vec_len l.ids ≡ l.row
