use Rattle.std.proofs.Common.{◌≡◌, length}
use Rattle.parens.proofs.tests.image_of.Given as goal

abbrev pub invariant-loop-bit : goal.invariant-loop-bit
invariant-loop-bit l = length l.maker ≡ l.bit-index
