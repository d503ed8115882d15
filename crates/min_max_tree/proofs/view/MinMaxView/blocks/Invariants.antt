use Rattle.std.proofs.Common.{◌≤◌, ◌+◌, ◌*◌, length}
use Rattle.bit_words.specs.Digits.{digits}
use Rattle.min_max_tree.specs.MinMaxView.{searched}
use Rattle.min_max_tree.specs.Node.{IsRun}
use Rattle.min_max_tree.specs.Tree.{node_from}
use Rattle.min_max_tree.specs.Level.{IsLevel}
use Rattle.min_max_tree.proofs.view.MinMaxView.blocks.Given as goal

abbrev pub invariant-loop-low : goal.invariant-loop-low
invariant-loop-low g l =
    let bits = searched l.self in
    let h = l.level.height in
    record {
      level : IsLevel (length bits) l.level;
      some : 1 ≤ l.low;
      order : l.low ≤ l.high;
      first : 512 * l.first ≤ node_from h l.low;
      last : node_from h l.high ≤ 512 * l.last;
      left : IsRun bits (512 * l.first) (node_from h l.low) l.left;
      right : IsRun bits (node_from h l.high) (512 * l.last) l.right;
      grows : l.initial.steps ≤ l.steps;
      steps : l.steps + 2 * digits l.high ≤ l.initial.steps + 2 * digits l.last;
    }

abbrev pub decreases-loop-low : goal.decreases-loop-low
decreases-loop-low g l = l.high
