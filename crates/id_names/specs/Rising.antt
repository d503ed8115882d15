-- A rising list of numbers: their high parts as ones and zeros, and their low parts.
use Rattle.std.specs.Prelude.{ℕ, ◌+◌, ◌-◌, ◌*◌, ◌^◌, Bool, true, List, slice_index, Option, None, Some}
use Rattle.bit_words.specs.Bits.{select}

-- the zeros before place p, where j ones stand before it
abbrev pub zeros_at : ℕ → Option ℕ → ℕ
zeros_at j None = 0
zeros_at j (Some p) = p - j

-- the high part of the number at place j of the list: the zeros before the one that has j ones before it
unfoldable pub high_part : List Bool → ℕ → ℕ
high_part high j = zeros_at j (select true high j)

-- the number at place j, whose low part has `low` bits
unfoldable pub rising_at : List Bool → List ℕ → ℕ → ℕ → ℕ
rising_at high lows low j = high_part high j * 2 ^ low + slice_index lows j
