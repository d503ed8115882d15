-- The bits of a view.
use Rattle.std.specs.Prelude.{Bool, List}
use Rattle.bit_words.specs.declared.bit_view.BitView.{BitView}
use Rattle.bit_words.specs.WordView.{words_of}
use Rattle.bit_words.specs.Bits.{bits_in}

-- the bits that a view stands for
abbrev pub bits_of : BitView → List Bool
bits_of v = bits_in (words_of v.words) v.len
