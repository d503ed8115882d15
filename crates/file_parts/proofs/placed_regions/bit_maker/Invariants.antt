use Rattle.std.proofs.Common.{◌≡◌, length}
use Rattle.file_parts.proofs.placed_regions.bit_maker.Given as goal

abbrev pub invariant-loop-bit : goal.invariant-loop-bit
invariant-loop-bit l = length l.maker ≡ l.bit-index
