use Rattle.std.proofs.Common.{◌<◌, ◌≤◌, ◌+◌, ◌-◌, ◌*◌, ℕ, length}
use Rattle.bit_words.specs.Digits.{digits}
use Rattle.file_laws.specs.Contents.{component_count}
use Rattle.pemb_file.specs.Served.{contents_of_view}
use Rattle.pemb_file.specs.Milestones.{place_at}
use Rattle.navigate.proofs.places.components_below.Given as goal

abbrev pub invariant-loop-low : goal.invariant-loop-low
invariant-loop-low g l =
    let m = contents_of_view l.served in
    record {
      order : l.low ≤ l.high;
      within : l.high ≤ length m.place_order;
      before : (i : ℕ) → i < l.low → place_at m i < l.place;
      from : (i : ℕ) → l.high ≤ i → i < length m.place_order → l.place ≤ place_at m i;
      grows : l.initial.steps ≤ l.steps;
      paid : l.steps + 2 * digits (l.high - l.low) ≤ l.initial.steps + 2 * digits (component_count m);
    }

abbrev pub decreases-loop-low : goal.decreases-loop-low
decreases-loop-low g l = l.high - l.low
