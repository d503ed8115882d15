use Rattle.std.specs.Prelude.{map}
use Rattle.std.specs.List.{range_with_len}
use Rattle.std.proofs.Common.{◌≡◌, ◌++◌}
use Rattle.map_maker.specs.Grid.{east_edge, place_of}
use Rattle.map_maker.proofs.rows.push_east_edges.Given as goal

-- the rows so far
abbrev pub invariant-loop-i : goal.invariant-loop-i
invariant-loop-i l = l.edges ≡ l.initial.edges ++ map (east_edge l.n) (map (place_of l.n) (range_with_len 0 l.i))
