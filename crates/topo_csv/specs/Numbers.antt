-- The numbers that fields spell.
use Rattle.std.specs.Prelude.{◌==◌, if◌then◌else◌, ℕ, ℤ, pos, List, [], ◌∷◌, Option, None, option_map}
use Rattle.std.specs.Option.{option_or}
use Rattle.topo_base.specs.Spelling.{digits_behind, id_number, signed_number}

-- the number that a text spells: an id from 0 on, or that of a signed edge
abbrev pub spelled_number : List ℕ → Option ℤ
spelled_number text = option_or (option_map pos (id_number text)) (signed_number text)

-- the value of digits behind a '-'
abbrev pub digits_behind_sign : List ℕ → Option ℕ
digits_behind_sign [] = None
digits_behind_sign (b ∷ bytes) = if b == 45 then digits_behind 0 bytes else None
