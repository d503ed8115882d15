use Rattle.id_index.proofs.Sorted.{same_ids, rows_kept}
use Rattle.id_index.proofs.sparse.SparseRows.new.Goals as goal

pub returns-clause-same : goal.returns-clause-same
returns-clause-same c = same_ids c.args.ids.now c.in_ok-rising.field-0.items c.in_ok-rising.ensures.same

pub returns-clause-rows : goal.returns-clause-rows
returns-clause-rows c = rows_kept c.args.ids.now c.in_ok-rising.field-0.items c.in_ok-rising.ensures.first
