-- What is left of a region.
use Rattle.std.specs.Prelude.{ℕ, length}
use Rattle.scratch_region.specs.declared.region.Region.{Region}

-- how many words are left
abbrev pub words_left : Region → ℕ
words_left r = length r.words.now
