-- What the eight bits of a byte come to.
use Rattle.std.specs.Prelude.{ℕ, zero, suc, ◌/◌, ◌%◌, ◌==◌, ◌&&◌, ◌≡◌, ◌<◌, ◌+◌, ℤ, pos, ◌+ℤ◌, Bool, true, List, find, Option, None, Some}
use Rattle.std.specs.Int.{int_min}
use Rattle.std.specs.Ordering.{int_eq}
use Rattle.std.specs.List.{range_with_len}
use Rattle.bit_words.specs.Bits.{is_set, word_bits, rank, excess}
use Rattle.bit_words.specs.Lists.{last_below}

-- the least excess of a front of the first n bits, the empty front included
unfoldable pub least_front : List Bool → ℕ → ℤ
least_front bits zero = pos 0
least_front bits (suc n) = int_min (least_front bits n) (excess bits (suc n))

-- what the bits of a byte sum to
unfoldable pub byte_excess : ℕ → ℤ
byte_excess byte = excess (word_bits byte) 8

-- the least that a front of them sums to
unfoldable pub byte_least : ℕ → ℤ
byte_least byte = least_front (word_bits byte) 8

-- a place, or this number where there is none
abbrev pub place_or : ℕ → Option ℕ → ℕ
place_or none None = none
place_or none (Some place) = place

-- the least place after 0 in a byte such that the bits before it sum to -need
unfoldable pub first_fall : ℕ → ℕ → Option ℕ
first_fall byte need = find (λ p. int_eq (excess (word_bits byte) p +ℤ pos need) (pos 0)) (range_with_len 1 8)

-- the greatest place before 8 in a byte such that the bits from it on sum to need
unfoldable pub last_rise : ℕ → ℕ → Option ℕ
last_rise byte need = last_below (λ p. int_eq (excess (word_bits byte) p +ℤ pos need) (excess (word_bits byte) 8)) 8

-- entry 8 * byte + need - 1 of the falls, and of the rises
unfoldable pub fall_entry : ℕ → ℕ
fall_entry i = place_or 9 (first_fall (i / 8) (i % 8 + 1))

unfoldable pub rise_entry : ℕ → ℕ
rise_entry i = place_or 8 (last_rise (i / 8) (i % 8 + 1))

-- entry 8 * byte + j of the places: that of the one in the byte with j ones below it
unfoldable pub place_in_byte : ℕ → ℕ
place_in_byte i = place_or 8 (find (λ p. is_set (i / 8) p && (rank true (word_bits (i / 8)) p == i % 8)) (range_with_len 0 8))

-- place p of a byte is a one and has j ones below it
pub record IsByteOne (byte j p : ℕ) : Type 0 where
  pub within : p < 8
  pub one : is_set byte p ≡ true
  pub below : rank true (word_bits byte) p ≡ j
