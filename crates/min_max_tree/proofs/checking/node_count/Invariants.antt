use Rattle.min_max_tree.specs.Tree.{size_at}
use Rattle.min_max_tree.specs.Level.{IsLevel}
use Rattle.min_max_tree.proofs.checking.node_count.Given as goal

abbrev pub invariant-loop-level : goal.invariant-loop-level
invariant-loop-level l = record {
  level : IsLevel l.len l.level;
}

abbrev pub decreases-loop-level : goal.decreases-loop-level
decreases-loop-level l = size_at l.len l.level.height
