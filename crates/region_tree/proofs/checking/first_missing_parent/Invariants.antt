use Rattle.std.proofs.Common.{◌≡◌, drop}
use Rattle.plane_model.specs.Faults.{first_in}
use Rattle.region_tree.specs.Checked.{missing_parent}
use Rattle.region_tree.proofs.checking.first_missing_parent.Given as goal

-- the first fault of the rows that are left is the first of all
abbrev pub invariant-loop-row : goal.invariant-loop-row
invariant-loop-row l = first_in (missing_parent l.ids) (drop l.row-index l.rows) ≡ first_in (missing_parent l.ids) l.rows
