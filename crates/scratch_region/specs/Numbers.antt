-- The numbers of a list over lent words.
use Rattle.std.specs.Prelude.{ℕ, List}
use Rattle.scratch_region.specs.declared.numbers.Numbers.{Numbers}

-- the numbers, by their places
abbrev pub numbers_of : Numbers → List ℕ
numbers_of n = n.words.now
