use Rattle.std.proofs.Common.{◌≡◌, ◌<◌, ℕ, length, slice_index}
use Rattle.region_tree.proofs.numbering.numbers.Given as goal

abbrev pub invariant-loop-number : goal.invariant-loop-number
invariant-loop-number l = record {
  many : length l.numbers.items ≡ length l.order;
  number : (x : ℕ) → x < l.number → slice_index l.numbers.items (slice_index l.order x) ≡ x;
}
