use Rattle.std.proofs.Common.{◌<◌, ◌≤◌, ◌+◌, ◌-◌, ℕ, length}
use Rattle.std.specs.Prelude.{slice_index}
use Rattle.bit_words.specs.Digits.{digits}
use Rattle.pemb_file.specs.Served.{contents_of_view}
use Rattle.navigate.proofs.places.isolated_below.Given as goal

abbrev pub invariant-loop-low : goal.invariant-loop-low
invariant-loop-low g l =
    let m = contents_of_view l.served in
    record {
      order : l.low ≤ l.high;
      within : l.high ≤ length m.isolated;
      before : (i : ℕ) → i < l.low → slice_index m.isolated i < l.place;
      from : (i : ℕ) → l.high ≤ i → i < length m.isolated → l.place ≤ slice_index m.isolated i;
      grows : l.initial.steps ≤ l.steps;
      paid : l.steps + digits (l.high - l.low) ≤ l.initial.steps + digits (length m.isolated);
    }

abbrev pub decreases-loop-low : goal.decreases-loop-low
decreases-loop-low g l = l.high - l.low
