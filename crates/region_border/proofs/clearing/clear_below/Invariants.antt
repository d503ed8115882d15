use Rattle.std.proofs.Common.{◌≡◌, ◌<◌, ◌≤◌, ℕ, false}
use Rattle.scratch_region.specs.Marks.{room_of, is_marked}
use Rattle.region_border.proofs.clearing.clear_below.Given as goal

abbrev pub invariant-loop-number : goal.invariant-loop-number
invariant-loop-number l =
    record {
      room : room_of l.marks ≡ room_of l.fn.marks;
      cleared : (j : ℕ) → j < l.number → is_marked l.marks j ≡ false;
      kept : (j : ℕ) → l.number ≤ j → is_marked l.marks j ≡ is_marked l.fn.marks j;
    }
