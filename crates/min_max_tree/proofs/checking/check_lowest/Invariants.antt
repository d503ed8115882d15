use Rattle.std.proofs.Common.{◌≤◌, ◌+◌, ◌*◌, length, min}
use Rattle.bit_words.specs.BitView.{bits_of}
use Rattle.bit_words.specs.WordView.{words_of}
use Rattle.min_max_tree.specs.Tree.{nodes_of}
use Rattle.min_max_tree.specs.Built.{HoldsFirst}
use Rattle.min_max_tree.proofs.checking.check_lowest.Given as goal

abbrev pub invariant-loop-block : goal.invariant-loop-block
invariant-loop-block g l = record {
  holds : HoldsFirst (nodes_of (bits_of l.bits)) (words_of l.nodes) l.block;
  grows : l.initial.steps ≤ l.steps;
  steps : l.steps ≤ l.initial.steps + min (length (bits_of l.bits)) (512 * l.block) + l.block;
}
