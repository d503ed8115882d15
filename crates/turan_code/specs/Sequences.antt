-- What sequences and starts stand for, a code or none.
use Rattle.std.specs.Prelude.{◌≡◌, ◌≤◌, ◌+◌, length, None}
use Rattle.bit_words.specs.BitView.{bits_of}
use Rattle.bit_words.specs.PackedView.{fields_of}
use Rattle.code_laws.specs.Code.{Code, code_with}
use Rattle.code_laws.specs.SeqFault.{starts_fault, ones_fault}
use Rattle.turan_code.specs.declared.sequences.Sequences.{Sequences}

-- the sequences and starts of these views
abbrev pub code_of_sequences : Sequences → Code
code_of_sequences s = code_with (bits_of s.a) (bits_of s.tree) (bits_of s.dual) (fields_of s.starts)

-- so few that numbers of places fit, and at least one start
pub record AreFew (c : Code) : Type 0 where
  pub positions : length c.a ≤ 2147483647
  pub starts : length c.starts ≤ 2147483647
  pub some : 1 ≤ length c.starts
  pub sizes : length c.tree + length c.dual ≡ length c.a

-- the starts rise from 0 to the number of positions, and there is a parenthesis for each position of a kind
pub record AreLaidOut (c : Code) : Type 0 where
  pub few : AreFew c
  pub starts : starts_fault c ≡ None
  pub ones : ones_fault c ≡ None
