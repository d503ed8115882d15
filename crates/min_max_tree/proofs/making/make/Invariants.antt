use Rattle.std.proofs.Common.{◌+◌, length}
use Rattle.min_max_tree.specs.Tree.{size_at, start_at, nodes_of}
use Rattle.min_max_tree.specs.Level.{IsLevel}
use Rattle.min_max_tree.specs.Built.{Built}
use Rattle.min_max_tree.proofs.making.make.Given as goal

abbrev pub invariant-loop-level : goal.invariant-loop-level
invariant-loop-level l = record {
  level : IsLevel (length l.bits) l.level;
  built : Built (nodes_of l.bits) l.nodes.items (start_at (length l.bits) (l.level.height + 1));
}

abbrev pub decreases-loop-level : goal.decreases-loop-level
decreases-loop-level l = size_at (length l.bits) l.level.height
