use Rattle.std.proofs.Common.{◌<◌, ◌≤◌, ◌+◌, ◌-◌, ◌*◌, ℕ, length}
use Rattle.pemb_file.specs.Milestones.{place_at}
use Rattle.pemb_file.specs.Served.{contents_of_view}
use Rattle.pemb_file.proofs.marking.components_from.Given as goal

abbrev pub invariant-loop-below : goal.invariant-loop-below
invariant-loop-below g l =
    let m = contents_of_view l.served in
    record {
      within : l.below ≤ length m.place_order;
      before : (j : ℕ) → j < l.below → place_at m j < l.place;
      grows : l.initial.steps ≤ l.steps;
      paid : l.steps + 2 * l.from ≤ l.initial.steps + 2 * l.below;
    }

abbrev pub decreases-loop-below : goal.decreases-loop-below
decreases-loop-below g l = l.count - l.below
