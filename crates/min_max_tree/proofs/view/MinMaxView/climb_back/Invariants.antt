use Rattle.std.specs.Prelude.{pos, ◌-ℤ◌}
use Rattle.std.proofs.Common.{◌<◌, ◌≤◌, ◌+◌, length}
use Rattle.bit_words.specs.Bits.{excess}
use Rattle.bit_words.specs.Digits.{digits}
use Rattle.min_max_tree.specs.MinMaxView.{searched}
use Rattle.min_max_tree.specs.SearchBack.{Remains}
use Rattle.min_max_tree.specs.Tree.{size_at, node_from}
use Rattle.min_max_tree.specs.Level.{IsLevel}
use Rattle.min_max_tree.proofs.view.MinMaxView.climb_back.Given as goal

abbrev pub invariant-loop-j : goal.invariant-loop-j
invariant-loop-j g l =
    let bits = searched l.self in
    let high = node_from 0 l.block in
    record {
      level : IsLevel (length bits) l.level;
      within : l.j < size_at (length bits) l.level.height;
      order : node_from l.level.height l.j ≤ high;
      remains : Remains bits (excess bits high -ℤ pos l.need) (node_from l.level.height l.j) high l.need l.left;
      grows : l.initial.steps ≤ l.steps;
      steps : l.steps + digits l.j ≤ l.initial.steps + digits l.block;
      height : l.level.height + digits l.j ≤ digits l.block;
    }

abbrev pub decreases-loop-j : goal.decreases-loop-j
decreases-loop-j g l = l.j
