use Rattle.std.specs.Prelude.{pos, ◌+ℤ◌}
use Rattle.std.proofs.Common.{◌≡◌, ◌≤◌, ◌+◌, ◌*◌, length}
use Rattle.bit_words.specs.Bits.{excess}
use Rattle.bit_words.specs.Digits.{digits}
use Rattle.min_max_tree.specs.MinMaxView.{searched}
use Rattle.min_max_tree.specs.Tree.{node_from}
use Rattle.min_max_tree.specs.Level.{IsLevel}
use Rattle.min_max_tree.proofs.view.MinMaxView.before_block.Given as goal

abbrev pub invariant-loop-j : goal.invariant-loop-j
invariant-loop-j g l =
    let bits = searched l.self in
    record {
      level : IsLevel (length bits) l.level;
      within : node_from l.level.height l.j ≤ length bits;
      rise : excess bits (node_from l.level.height l.j) +ℤ pos l.rise ≡ excess bits (512 * l.block) +ℤ pos 1099511627776;
      grows : l.initial.steps ≤ l.steps;
      steps : l.steps + digits l.j ≤ l.initial.steps + digits l.block;
    }

abbrev pub decreases-loop-j : goal.decreases-loop-j
decreases-loop-j g l = l.j
