-- Columns by number.
use Rattle.std.specs.Prelude.{ℕ}
use Rattle.topo_base.specs.declared.refusal.Column.{Column}
use Rattle.topo_base.specs.declared.refusal.Column.TheVariants as column

-- the place of a column among all columns
abbrev pub code : Column → ℕ
code column.NodeId = 0
code column.ContainingFace = 1
code column.EdgeId = 2
code column.StartNode = 3
code column.EndNode = 4
code column.NextLeftEdge = 5
code column.NextRightEdge = 6
code column.LeftFace = 7
code column.RightFace = 8
code column.FaceId = 9
code column.RegionId = 10
code column.Parent = 11
