use Rattle.std.proofs.Common.{◌≡◌, ◌<◌, ◌≤◌, ◌+◌, ℕ, true, List, ◌++◌}
use Rattle.std.specs.Prelude.{take, drop, length}
use Rattle.scratch_region.specs.Marks.{room_of, is_marked}
use Rattle.plane_model.specs.Sets.{has, first_occurrences_but}
use Rattle.navigate.specs.Beside.{others}
use Rattle.navigate.proofs.neighbours.enter_unseen.Given as goal

abbrev pub invariant-loop-found : goal.invariant-loop-found
invariant-loop-found l = record {
  room : room_of l.marks ≡ room_of l.fn.marks;
  within : (j : ℕ) → has (drop l.found-index l.across) j ≡ true → j < room_of l.fn.marks;
  few : length l.given.items ≤ length l.fn.given.items + l.found-index;
  places : (seen : List ℕ) → ((j : ℕ) → is_marked l.fn.marks j ≡ has seen j)
      → l.given.items ≡ l.fn.given.items ++ first_occurrences_but seen (others l.place (take l.found-index l.across));
  marks : (seen : List ℕ) → ((j : ℕ) → is_marked l.fn.marks j ≡ has seen j) → (j : ℕ)
      → is_marked l.marks j ≡ has (seen ++ first_occurrences_but seen (others l.place (take l.found-index l.across))) j;
}
