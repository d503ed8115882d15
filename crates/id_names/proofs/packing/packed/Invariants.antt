use Rattle.std.proofs.Common.{◌≡◌, take}
use Rattle.id_names.proofs.packing.packed.Given as goal

abbrev pub invariant-loop-number : goal.invariant-loop-number
invariant-loop-number l = l.maker ≡ record { width = l.width; items = take l.number-index l.numbers }
