use Rattle.std.specs.Prelude.{map}
use Rattle.std.specs.List.{range_with_len}
use Rattle.std.proofs.Common.{◌≡◌, ◌++◌}
use Rattle.map_maker.specs.Grid.{closed_edge}
use Rattle.map_maker.proofs.rows.push_closed_edges.Given as goal

-- the rows so far
abbrev pub invariant-loop-q : goal.invariant-loop-q
invariant-loop-q l = l.edges ≡ l.initial.edges ++ map (closed_edge l.n) (range_with_len 1 l.q)
