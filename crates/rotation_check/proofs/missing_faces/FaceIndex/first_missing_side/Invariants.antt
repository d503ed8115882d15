use Rattle.std.proofs.Common.{◌≡◌, drop}
use Rattle.plane_model.specs.Rows.{rows_of}
use Rattle.plane_model.specs.PlaneMap.{map_of}
use Rattle.plane_model.specs.Faults.{first_in, no_face}
use Rattle.rotation_check.proofs.missing_faces.FaceIndex.first_missing_side.Given as goal

-- the first fault of the rows that are left is the first of all
abbrev pub invariant-loop-row : goal.invariant-loop-row
invariant-loop-row l = first_in (no_face (map_of (rows_of l.self.tables.now))) (drop l.row l.self.tables.now.edges) ≡ first_in (no_face (map_of (rows_of l.self.tables.now))) l.self.tables.now.edges
