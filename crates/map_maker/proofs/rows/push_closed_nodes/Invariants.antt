use Rattle.std.specs.Prelude.{map}
use Rattle.std.specs.List.{range_with_len}
use Rattle.std.proofs.Common.{◌≡◌, ◌++◌}
use Rattle.map_maker.specs.Grid.{closed_node}
use Rattle.map_maker.proofs.rows.push_closed_nodes.Given as goal

-- the rows so far
abbrev pub invariant-loop-q : goal.invariant-loop-q
invariant-loop-q l = l.nodes ≡ l.initial.nodes ++ map (closed_node l.n) (range_with_len 1 l.q)
