-- What a maker of packed numbers holds, and the words that it gives.
use Rattle.std.specs.Prelude.{ℕ, ◌+◌, ◌*◌, ◌/◌, ◌^◌, ◌<◌, ◌≤◌, ◌≡◌, List, length}
use Rattle.bit_words.specs.Bits.{stream}

-- numbers of one width
pub record PackedList : Type 0 where
  pub width : ℕ
  pub items : List ℕ

-- these words hold these numbers, and no other bit is 1
pub record Packs (words : List ℕ) (count width : ℕ) : Type 0 where
  pub some : 1 ≤ width
  pub narrow : width ≤ 64
  pub few : count ≤ 2147483647
  pub size : length words ≡ (count * width + 63) / 64
  pub rest : stream words < 2 ^ (count * width)
