use Rattle.min_max_tree.specs.Tree.{nodes_of}
use Rattle.min_max_tree.specs.Built.{Built}
use Rattle.min_max_tree.proofs.making.lowest_nodes.Given as goal

abbrev pub invariant-loop-block : goal.invariant-loop-block
invariant-loop-block l = record {
  built : Built (nodes_of l.bits) l.nodes.items l.block;
}
