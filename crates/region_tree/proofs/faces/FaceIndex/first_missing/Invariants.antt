use Rattle.std.proofs.Common.{◌≡◌, drop, map}
use Rattle.plane_model.specs.Faults.{first_in}
use Rattle.region_tree.specs.Checked.{missing_face}
use Rattle.region_tree.proofs.faces.FaceIndex.first_missing.Given as goal

-- the first fault of the rows that are left is the first of all
abbrev pub invariant-loop-row : goal.invariant-loop-row
invariant-loop-row l = first_in (missing_face (map (λ f. f.id) l.self.faces.now)) (drop l.row-index l.rows) ≡ first_in (missing_face (map (λ f. f.id) l.self.faces.now)) l.rows
