-- The bits that a view searches.
use Rattle.std.specs.Prelude.{Bool, List}
use Rattle.bit_words.specs.BitView.{bits_of}
use Rattle.min_max_tree.specs.declared.view.MinMaxView.{MinMaxView}

-- the bits that a view searches
abbrev pub searched : MinMaxView → List Bool
searched v = bits_of v.bits
