-- What is known of the gap before a position.
use Rattle.std.specs.Prelude.{ℕ, ◌≡◌, ◌≤◌, ◌/◌, Bool, true, false, length, IsTrue}
use Rattle.bit_words.specs.Bits.{rank}
use Rattle.code_laws.specs.Code.{Code, parens, place, start_of}
use Rattle.code_laws.specs.Enclosing.{enclosing_numbers}
use Rattle.code_laws.specs.SeqFault.{is_sound}
use Rattle.turan_code.specs.Numbering.{HaveBegun}
use Rattle.turan_code.specs.TuranView.{code_of_parts}
use Rattle.turan_code.specs.declared.view.TuranParts.{TuranParts}
use Rattle.code_tour.specs.OpenPairs.{open_numbers, room_of}
use Rattle.code_tour.specs.declared.begun.Begun.{Begun}
use Rattle.code_tour.specs.declared.gap.Gap.{Gap}
use Rattle.code_tour.specs.declared.open_pairs.OpenPairs.{OpenPairs}

-- a sound code, so short that numbers fit
pub record AreShort (parts : TuranParts) : Type 0 where
  pub few : length (code_of_parts parts).a ≤ 2147483647
  pub sound : IsTrue (is_sound (code_of_parts parts))

-- the pairs of a kind round the gap before a position, how many have opened before it, and room for all that there are
pub record AreOpen (c : Code) (kind : Bool) (p : ℕ) (pairs : OpenPairs) : Type 0 where
  pub numbers : open_numbers pairs ≡ enclosing_numbers (parens c kind) (place c kind p)
  pub opened : pairs.opened ≡ rank true (parens c kind) (place c kind p)
  pub place : pairs.place ≡ place c kind p
  pub few : pairs.depth ≤ pairs.opened
  pub room : length (parens c kind) / 2 ≤ room_of pairs

-- how many components have begun before a position, and where the next one begins or the last one ends
pub record HasBegun (c : Code) (p : ℕ) (begun : Begun) : Type 0 where
  pub count : HaveBegun c p begun.count
  pub next : begun.next ≡ start_of c begun.count

-- all that is known of the gap
pub record IsGap (c : Code) (p : ℕ) (gap : Gap) : Type 0 where
  pub tree : AreOpen c true p gap.tree
  pub dual : AreOpen c false p gap.dual
  pub begun : HasBegun c p gap.begun
