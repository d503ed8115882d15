use Rattle.std.proofs.Common.{◌≤◌, ◌+◌, ◌*◌, length}
use Rattle.bit_words.specs.BitView.{bits_of}
use Rattle.bit_words.specs.WordView.{words_of}
use Rattle.min_max_tree.specs.Tree.{nodes_of, size_at, start_at}
use Rattle.min_max_tree.specs.Level.{IsLevel}
use Rattle.min_max_tree.specs.Built.{HoldsFirst}
use Rattle.min_max_tree.proofs.checking.check_levels.Given as goal

abbrev pub invariant-loop-level : goal.invariant-loop-level
invariant-loop-level g l = record {
  level : IsLevel (length (bits_of l.bits)) l.level;
  holds : HoldsFirst (nodes_of (bits_of l.bits)) (words_of l.nodes) (start_at (length (bits_of l.bits)) (l.level.height + 1));
  grows : l.initial.steps ≤ l.steps;
  steps : l.steps + 3 * start_at (length (bits_of l.bits)) 1 ≤ l.initial.steps + 3 * start_at (length (bits_of l.bits)) (l.level.height + 1);
}

abbrev pub decreases-loop-level : goal.decreases-loop-level
decreases-loop-level g l = size_at (length (bits_of l.bits)) l.level.height
