use Rattle.std.specs.Prelude.{map}
use Rattle.std.specs.List.{range_with_len}
use Rattle.std.proofs.Common.{◌≡◌, ◌++◌, ◌+◌}
use Rattle.map_maker.specs.Grid.{grid_node, place_of}
use Rattle.map_maker.proofs.rows.push_grid_nodes.Given as goal

-- the rows so far
abbrev pub invariant-loop-i : goal.invariant-loop-i
invariant-loop-i l = l.nodes ≡ l.initial.nodes ++ map (grid_node l.n) (map (place_of (l.n + 1)) (range_with_len 0 l.i))
