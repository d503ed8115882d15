-- Bits and numbers of a fixed width in words, and how bits are counted and searched.
use Rattle.std.specs.Prelude.{ℕ, [], ◌∷◌, ◌+◌, ◌*◌, ◌/◌, ◌%◌, ◌^◌, ◌<◌, ◌≤◌, ◌≡◌, ◌==◌, ℤ, pos, ◌-ℤ◌, Bool, true, false, not, ◌&&◌, find, List, length, slice_index, slice_index_or, count_by, take, Option, MatchOption}
use Rattle.std.specs.Int.{bit_at}
use Rattle.std.specs.List.{range_with_len}
use Rattle.bit_words.specs.Lists.{tabulate}

-- whether bit i of a number is 1, the least bit first
unfoldable pub is_set : ℕ → ℕ → Bool
is_set word i = bit_at word i == 1

-- the 64 bits of a word
unfoldable pub word_bits : ℕ → List Bool
word_bits word = tabulate 64 (is_set word)

-- bit i of a list of words is bit i mod 64 of word i / 64
unfoldable pub bit_of : List ℕ → ℕ → Bool
bit_of words i = is_set (slice_index words (i / 64)) (i % 64)

-- the first n bits of these words
unfoldable pub bits_in : List ℕ → ℕ → List Bool
bits_in words n = tabulate n (bit_of words)

-- whether two bits are the same
abbrev pub same : Bool → Bool → Bool
same true b = b
same false b = not b

-- how many of the first i bits are this one
unfoldable pub rank : Bool → List Bool → ℕ → ℕ
rank bit bits i = count_by (same bit) (take i bits)

-- bit p is of this kind, and has j of its kind before it; none where there are at most j
abbrev pub IsSelected : Bool → List Bool → ℕ → Option ℕ → Type 0
IsSelected bit bits j answer =
    MatchOption answer (rank bit bits (length bits) ≤ j)
    (λ p. (p < length bits) × (slice_index_or bits p (not bit) ≡ bit) × (rank bit bits p ≡ j))

-- a one counts +1 and a zero -1: the sum of the first i bits
unfoldable pub excess : List Bool → ℕ → ℤ
excess bits i = pos (rank true bits i) -ℤ pos (rank false bits i)

-- the least p above low and up to high where P holds, or none
abbrev pub IsNext : (ℕ → Type 0) → ℕ → ℕ → Option ℕ → Type 0
IsNext P low high answer =
    MatchOption answer ((p : ℕ) → low < p → p ≤ high → ¬ P p)
    (λ p. (low < p) × (p ≤ high) × P p × ((q : ℕ) → low < q → q < p → ¬ P q))

-- the greatest p below high and from low on where P holds, or none
abbrev pub IsLast : (ℕ → Type 0) → ℕ → ℕ → Option ℕ → Type 0
IsLast P low high answer =
    MatchOption answer ((p : ℕ) → low ≤ p → p < high → ¬ P p)
    (λ p. (low ≤ p) × (p < high) × P p × ((q : ℕ) → p < q → q < high → ¬ P q))

-- words as the digits of one number, the least first, each by its low 64 bits
unfoldable pub stream : List ℕ → ℕ
stream [] = 0
stream (word ∷ words) = word % 2 ^ 64 + 2 ^ 64 * stream words

-- the number in the `width` bits from bit `from` on
unfoldable pub field_at : List ℕ → ℕ → ℕ → ℕ
field_at words from width = stream words / 2 ^ from % 2 ^ width

-- the first `count` fields of `width` bits, field i at the bits from i * width on
unfoldable pub fields_in : List ℕ → ℕ → ℕ → List ℕ
fields_in words count width = tabulate count (λ i. field_at words (i * width) width)

-- these words have these bits, and then bits of 0 to the end of the last word
pub record HoldsBits (words : List ℕ) (bits : List Bool) : Type 0 where
  pub size : length words ≡ (length bits + 63) / 64
  pub bit : (i : ℕ) → bit_of words i ≡ slice_index_or bits i false

-- the place of the bit of this kind that has j of its kind before it
unfoldable pub select : Bool → List Bool → ℕ → Option ℕ
select bit bits j = find (λ p. same bit (slice_index_or bits p (not bit)) && (rank bit bits p == j)) (range_with_len 0 (length bits))
