use Rattle.plane_model.specs.Rows.{rows_of}
use Rattle.rotation_check.proofs.Numbering.{NextsTo}
use Rattle.rotation_check.proofs.missing_edges.EdgeIndex.nexts_of_darts.Given as goal

-- the darts of the rows so far have their nexts
abbrev pub invariant-loop-row : goal.invariant-loop-row
invariant-loop-row l = NextsTo (rows_of l.self.tables.now) l.row l.nexts.items
