use Rattle.std.proofs.Common.{ℕ, ◌<◌, ◌≤◌, slice_index}
use Rattle.bit_words.specs.PackedView.{fields_of}
use Rattle.file_parts.proofs.placed_regions.are_at_most.Given as goal

abbrev pub invariant-loop-place : goal.invariant-loop-place
invariant-loop-place g l = (k : ℕ) → k < l.place → slice_index (fields_of l.fields) k ≤ l.most
