-- The parts of small names.
use Rattle.std.specs.Prelude.{ℕ, ◌+◌, ◌^◌, [], ◌∷◌, List}
use Rattle.bit_words.specs.Bits.{bits_in, fields_in}
use Rattle.bit_words.specs.Digits.{digits}
use Rattle.id_names.specs.Making.{place_width}
use Rattle.id_names.specs.RisingNames.{RisingNames}

-- the names of these words, for c numbers, low parts of `low` bits and this many back pointers
abbrev pub names_in_words : ℕ → ℕ → ℕ → ℕ → List ℕ → ℕ → ℕ → ℕ → RisingNames
names_in_words c low marked high lows places marks back = record {
  high = bits_in (high ∷ []) (c + 2 ^ digits c);
  lows = fields_in lows c low;
  low = low;
  places = fields_in (places ∷ []) c (place_width c);
  marks = bits_in (marks ∷ []) c;
  back = fields_in (back ∷ []) marked (place_width c);
}

-- the directory of these bits, one block of them at most
abbrev pub directory : ℕ → List ℕ
directory word = fields_in (word ∷ []) 2 32

-- the names 2, 1, 3
abbrev pub two_one_three : RisingNames
two_one_three = names_in_words 3 29 0 7 (864691129528877057 ∷ 0 ∷ []) 33 0 0

-- the same with low parts of 61 bits
abbrev pub two_one_three_wide : RisingNames
two_one_three_wide = names_in_words 3 61 0 7 (4611686018427387905 ∷ 864691128455135232 ∷ 0 ∷ []) 33 0 0

-- the names 2, 3, 4, 1
abbrev pub one_cycle : RisingNames
one_cycle = names_in_words 4 28 2 15 (216172782650654721 ∷ 4194304 ∷ []) 209 9 3

-- one name, of the greatest id that 31 bits hold
abbrev pub greatest : RisingNames
greatest = names_in_words 1 30 0 2 (1073741823 ∷ []) 0 0 0

-- one name, of the greatest id that 63 bits hold
abbrev pub greatest_wide : RisingNames
greatest_wide = names_in_words 1 62 0 2 (4611686018427387903 ∷ []) 0 0 0

-- no names
abbrev pub nothing : RisingNames
nothing = names_in_words 0 31 0 0 [] 0 0 0

-- no names, with the widest low parts
abbrev pub nothing_wide : RisingNames
nothing_wide = names_in_words 0 63 0 0 [] 0 0 0
