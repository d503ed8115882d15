use Rattle.id_index.proofs.Filling.{IsFilled}
use Rattle.id_index.proofs.index.IdIndex.dense.Given as goal

abbrev pub invariant-loop-row : goal.invariant-loop-row
invariant-loop-row l = IsFilled l.ids l.fn.slots l.row l.rows.slots.items l.repeated
