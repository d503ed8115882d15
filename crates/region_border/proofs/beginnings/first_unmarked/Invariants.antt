use Rattle.std.proofs.Common.{◌≡◌, ℕ, ◌<◌, ◌≤◌, ◌+◌, ◌-◌, ◌*◌, false}
use Rattle.scratch_region.specs.Marks.{is_marked}
use Rattle.pemb_file.specs.Served.{contents_of_view}
use Rattle.region_border.specs.Numbered.{is_fresh_border}
use Rattle.region_border.specs.Prices.{scan_price}
use Rattle.region_border.proofs.beginnings.first_unmarked.Given as goal

abbrev pub invariant-loop-place : goal.invariant-loop-place
invariant-loop-place g l = record {
  none : (k : ℕ) → l.from ≤ k → k < l.place → is_fresh_border (contents_of_view l.served) l.region (is_marked l.marks) k ≡ false;
  grows : l.initial.steps ≤ l.steps;
  cost : l.steps ≤ l.initial.steps + scan_price (contents_of_view l.served) * (l.place - l.from);
}
