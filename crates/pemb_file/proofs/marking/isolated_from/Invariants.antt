use Rattle.std.proofs.Common.{◌<◌, ◌≤◌, ◌+◌, ◌-◌, ℕ, length}
use Rattle.std.specs.Prelude.{slice_index}
use Rattle.pemb_file.specs.Served.{contents_of_view}
use Rattle.pemb_file.proofs.marking.isolated_from.Given as goal

abbrev pub invariant-loop-below : goal.invariant-loop-below
invariant-loop-below g l =
    let m = contents_of_view l.served in
    record {
      within : l.below ≤ length m.isolated;
      before : (j : ℕ) → j < l.below → slice_index m.isolated j < l.place;
      grows : l.initial.steps ≤ l.steps;
      paid : l.steps + l.from ≤ l.initial.steps + l.below;
    }

abbrev pub decreases-loop-below : goal.decreases-loop-below
decreases-loop-below g l = l.count - l.below
