use Rattle.std.specs.Prelude.{pos, ◌-ℤ◌}
use Rattle.std.proofs.Common.{◌<◌, ◌≤◌, ◌+◌, ◌-◌, length}
use Rattle.bit_words.specs.Bits.{excess}
use Rattle.bit_words.specs.Digits.{digits}
use Rattle.min_max_tree.specs.MinMaxView.{searched}
use Rattle.min_max_tree.specs.Search.{Rests}
use Rattle.min_max_tree.specs.Tree.{size_at, node_to}
use Rattle.min_max_tree.specs.Level.{IsLevel}
use Rattle.min_max_tree.proofs.view.MinMaxView.climb.Given as goal

abbrev pub invariant-loop-level : goal.invariant-loop-level
invariant-loop-level g l =
    let bits = searched l.self in
    let len = length bits in
    let low = node_to len 0 l.block in
    record {
      level : IsLevel len l.level;
      within : l.j < size_at len l.level.height;
      order : low ≤ node_to len l.level.height l.j;
      rests : Rests bits (excess bits low -ℤ pos l.need) low (node_to len l.level.height l.j) l.need l.left;
      grows : l.initial.steps ≤ l.steps;
      steps : l.steps + digits (size_at len l.level.height - 1) ≤ l.initial.steps + digits (size_at len 0 - 1);
      height : l.level.height + digits (size_at len l.level.height - 1) ≤ digits (size_at len 0 - 1);
    }

abbrev pub decreases-loop-level : goal.decreases-loop-level
decreases-loop-level g l = size_at (length (searched l.self)) l.level.height
