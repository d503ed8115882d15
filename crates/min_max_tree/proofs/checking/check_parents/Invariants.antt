use Rattle.std.proofs.Common.{◌≤◌, ◌+◌, ◌*◌, length}
use Rattle.bit_words.specs.BitView.{bits_of}
use Rattle.bit_words.specs.WordView.{words_of}
use Rattle.min_max_tree.specs.Tree.{nodes_of, start_at}
use Rattle.min_max_tree.specs.Built.{HoldsFirst}
use Rattle.min_max_tree.proofs.checking.check_parents.Given as goal

abbrev pub invariant-loop-j : goal.invariant-loop-j
invariant-loop-j g l = record {
  holds : HoldsFirst (nodes_of (bits_of l.bits)) (words_of l.nodes) (start_at (length (bits_of l.bits)) (l.level.height + 1) + l.j);
  grows : l.initial.steps ≤ l.steps;
  steps : l.steps ≤ l.initial.steps + 3 * l.j;
}
