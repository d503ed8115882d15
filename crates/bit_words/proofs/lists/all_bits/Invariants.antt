use Rattle.std.proofs.Common.{◌≡◌, take}
use Rattle.bit_words.proofs.lists.all_bits.Given as goal

abbrev pub invariant-loop-bit : goal.invariant-loop-bit
invariant-loop-bit l = l.maker ≡ take l.bit-index l.bits
