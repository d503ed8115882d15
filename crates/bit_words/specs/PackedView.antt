-- The numbers of a view, and their width.
use Rattle.std.specs.Prelude.{ℕ, List}
use Rattle.bit_words.specs.declared.packed_view.PackedView.{PackedView}
use Rattle.bit_words.specs.WordView.{words_of}
use Rattle.bit_words.specs.Bits.{fields_in}

-- the numbers that a view stands for
abbrev pub fields_of : PackedView → List ℕ
fields_of v = fields_in (words_of v.words) v.count v.width

-- the number of bits of each
abbrev pub width_of : PackedView → ℕ
width_of v = v.width
