use Rattle.std.proofs.Common.{◌+◌, length}
use Rattle.min_max_tree.specs.Tree.{start_at, nodes_of}
use Rattle.min_max_tree.specs.Built.{Built}
use Rattle.min_max_tree.proofs.making.push_parents.Given as goal

abbrev pub invariant-loop-j : goal.invariant-loop-j
invariant-loop-j l = record {
  built : Built (nodes_of l.bits) l.nodes.items (start_at (length l.bits) (l.level.height + 1) + l.j);
}
