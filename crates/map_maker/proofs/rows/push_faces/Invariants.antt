use Rattle.std.specs.Prelude.{map}
use Rattle.std.specs.List.{range_with_len}
use Rattle.std.proofs.Common.{◌≡◌, ◌++◌}
use Rattle.map_maker.specs.Grid.{cell}
use Rattle.map_maker.proofs.rows.push_faces.Given as goal

-- the rows so far
abbrev pub invariant-loop-f : goal.invariant-loop-f
invariant-loop-f l = l.faces.items ≡ l.initial.faces.items ++ map cell (range_with_len 1 l.f)
