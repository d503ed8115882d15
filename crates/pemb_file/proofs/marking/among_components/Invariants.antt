use Rattle.std.proofs.Common.{◌<◌, ◌≤◌, ◌+◌, ◌-◌, ◌*◌, ℕ, length}
use Rattle.pemb_file.specs.Milestones.{AreMilestones, place_at}
use Rattle.pemb_file.specs.Served.{contents_of_view}
use Rattle.pemb_file.proofs.marking.among_components.Given as goal

abbrev pub invariant-loop-place : goal.invariant-loop-place
invariant-loop-place g l =
    let m = contents_of_view l.served in
    record {
      within : l.below ≤ length m.place_order;
      before : (j : ℕ) → j < l.below → place_at m j < l.milestones.count * l.milestones.stride;
      milestones : AreMilestones (place_at m) (length m.place_order) l.milestones;
      grows : l.initial.steps ≤ l.steps;
      paid : l.steps ≤ l.initial.steps + 2 * l.below + 2 * l.milestones.count;
    }

abbrev pub decreases-loop-place : goal.decreases-loop-place
decreases-loop-place g l = 1024 - l.milestones.count
