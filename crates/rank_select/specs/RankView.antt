-- The bits that a view counts.
use Rattle.std.specs.Prelude.{Bool, List}
use Rattle.bit_words.specs.BitView.{bits_of}
use Rattle.rank_select.specs.declared.view.RankView.{RankView}

-- the bits that a view counts
abbrev pub counted : RankView → List Bool
counted v = bits_of v.bits
