-- The names that parts in words stand for, and the sizes of these parts.
use Rattle.std.specs.Prelude.{◌+◌, ◌^◌, ◌≡◌, ◌≤◌, length, Option}
use Rattle.bit_words.specs.BitView.{bits_of}
use Rattle.bit_words.specs.PackedView.{fields_of, width_of}
use Rattle.bit_words.specs.Digits.{digits}
use Rattle.rank_select.specs.Counts.{blocks}
use Rattle.id_names.specs.RisingNames.{RisingNames}
use Rattle.id_names.specs.Faults.{name_fault}
use Rattle.id_names.specs.declared.fault.NameFault.{NameFault}
use Rattle.id_names.specs.declared.name_parts.NameParts.{NameParts}

-- the names that these parts stand for
abbrev pub names_of : NameParts → RisingNames
names_of p = record {
  high = bits_of p.high;
  lows = fields_of p.lows;
  low = width_of p.lows;
  places = fields_of p.places;
  marks = bits_of p.marks;
  back = fields_of p.back;
}

-- the first fault of these parts
abbrev pub fault_of : NameParts → Option NameFault
fault_of p = name_fault (names_of p) (fields_of p.high_counts) (fields_of p.mark_counts)

-- The parts have the sizes that the number of names c asks for: c places, low parts and marks, c ones and a zero for
-- each high part, of which 2 ^ digits c are in question, and a directory for each of the two lists of bits.
pub record HasSizes (p : NameParts) : Type 0 where
  pub few : length (fields_of p.places) ≤ 16777216
  pub some : 1 ≤ width_of p.lows
  pub narrow : digits (length (fields_of p.places)) + width_of p.lows ≤ 63
  pub high : length (bits_of p.high) ≡ length (fields_of p.places) + 2 ^ digits (length (fields_of p.places))
  pub high_counts : length (fields_of p.high_counts) ≡ blocks (length (bits_of p.high)) + 1
  pub high_width : width_of p.high_counts ≡ 32
  pub lows : length (fields_of p.lows) ≡ length (fields_of p.places)
  pub marks : length (bits_of p.marks) ≡ length (fields_of p.places)
  pub mark_counts : length (fields_of p.mark_counts) ≡ blocks (length (bits_of p.marks)) + 1
  pub mark_width : width_of p.mark_counts ≡ 32
