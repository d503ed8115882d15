use Rattle.std.specs.Prelude.{not, ◌&&◌}
use Rattle.std.proofs.Common.{◌≡◌, ◌<◌, ℕ, true, drop}
use Rattle.scratch_region.specs.Marks.{room_of, is_marked}
use Rattle.plane_model.specs.Sets.{has}
use Rattle.navigate.proofs.across.clear_places.Given as goal

-- the marks that are left, without those still to be taken away, are those of all without all
abbrev pub invariant-loop-place : goal.invariant-loop-place
invariant-loop-place l = record {
  room : room_of l.marks ≡ room_of l.fn.marks;
  within : (j : ℕ) → has (drop l.place-index l.places) j ≡ true → j < room_of l.fn.marks;
  marked : (j : ℕ) → (is_marked l.marks j && not (has (drop l.place-index l.places) j)) ≡ (is_marked l.fn.marks j && not (has l.places j));
}
