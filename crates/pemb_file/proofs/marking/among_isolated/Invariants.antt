use Rattle.std.proofs.Common.{◌<◌, ◌≤◌, ◌+◌, ◌-◌, ◌*◌, ℕ, length}
use Rattle.std.specs.Prelude.{slice_index}
use Rattle.pemb_file.specs.Milestones.{AreMilestones}
use Rattle.pemb_file.specs.Served.{contents_of_view}
use Rattle.pemb_file.proofs.marking.among_isolated.Given as goal

abbrev pub invariant-loop-place : goal.invariant-loop-place
invariant-loop-place g l =
    let m = contents_of_view l.served in
    record {
      within : l.below ≤ length m.isolated;
      before : (j : ℕ) → j < l.below → slice_index m.isolated j < l.milestones.count * l.milestones.stride;
      milestones : AreMilestones (slice_index m.isolated) (length m.isolated) l.milestones;
      grows : l.initial.steps ≤ l.steps;
      paid : l.steps ≤ l.initial.steps + l.below + l.milestones.count;
    }

abbrev pub decreases-loop-place : goal.decreases-loop-place
decreases-loop-place g l = 1024 - l.milestones.count
