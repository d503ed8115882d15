use Rattle.std.proofs.Common.{◌≡◌, ◌≤◌, ◌+◌, ◌*◌, ◌-◌, ◌<◌, ℕ, length}
use Rattle.bit_words.specs.PackedView.{fields_of}
use Rattle.bit_words.specs.Digits.{digits}
use Rattle.rank_select.specs.RankView.{counted}
use Rattle.id_names.specs.Rising.{high_part}
use Rattle.id_names.specs.RisingNames.{id_at}
use Rattle.id_names.specs.Views.{names_in}
use Rattle.id_names.proofs.view.NamesView.place_by_search.Given as goal

abbrev pub invariant-loop-span : goal.invariant-loop-span
invariant-loop-span g l = record {
  order : l.span.from ≤ l.span.to;
  within : l.span.to ≤ length (fields_of l.self.ids.lows);
  bucket : (k : ℕ) → l.span.from ≤ k → k < l.span.to → high_part (counted l.self.ids.high) k ≡ l.high;
  below : (k : ℕ) → k < l.span.from → id_at (names_in l.self) k < l.id;
  above : (k : ℕ) → l.span.to ≤ k → k < length (fields_of l.self.ids.lows) → l.id < id_at (names_in l.self) k;
  grows : l.initial.steps ≤ l.steps;
  steps : l.steps + 2 * l.span.probes + 2 * digits (l.span.to - l.span.from) ≤ l.initial.steps + 2 * l.initial.span.probes + 2 * digits (length (fields_of l.self.ids.lows));
}

abbrev pub decreases-loop-span : goal.decreases-loop-span
decreases-loop-span g l = l.span.to - l.span.from
