use Rattle.std.proofs.Common.{◌≡◌, take}
use Rattle.file_parts.proofs.placed_regions.packed.Given as goal

abbrev pub invariant-loop-number : goal.invariant-loop-number
invariant-loop-number l = l.maker ≡ record { width = 32; items = take l.number-index l.numbers }
