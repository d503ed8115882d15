-- Parentheses that match, found by counting: a 1 opens and a 0 closes.
use Rattle.std.specs.Prelude.{ℕ, zero, suc, ◌+◌, ◌-◌, ◌==◌, Bool, true, false, ◌&&◌, nat_le, nat_lt, min, if◌then◌else◌, List, [], ◌∷◌, length, find, slice_index_or, Option, None, Some, unwrap_or, is_none}
use Rattle.std.specs.List.{range_with_len}
use Rattle.bit_words.specs.Lists.{is_at}
use Rattle.bit_words.specs.Bits.{rank}

-- whether place i opens; none does from the end on
abbrev pub is_open : List Bool → ℕ → Bool
is_open bits i = slice_index_or bits i false

-- as many bits close as open from place i to place j, both included
abbrev pub is_even : List Bool → ℕ → ℕ → Bool
is_even bits i j = rank true bits (j + 1) + rank false bits i == rank false bits (j + 1) + rank true bits i

-- the place that closes what opens at i: the first up to which as many close as open
unfoldable pub close_of : List Bool → ℕ → Option ℕ
close_of bits i = find (is_even bits i) (range_with_len (i + 1) (length bits - (i + 1)))

-- the place that opens what closes at j
unfoldable pub open_of : List Bool → ℕ → Option ℕ
open_of bits j = find (λ i. is_open bits i && is_at (close_of bits i) j) (range_with_len 0 j)

-- the other place of the pair; a place that has none is its own
unfoldable pub mate_of : List Bool → ℕ → ℕ
mate_of bits i = unwrap_or (if is_open bits i then close_of bits i else open_of bits i) i

-- how many pairs open before the pair of place i
unfoldable pub pair_number : List Bool → ℕ → ℕ
pair_number bits i = rank true bits (if is_open bits i then i else mate_of bits i)

-- n - 1 and so on down to 0
unfoldable pub falling : ℕ → List ℕ
falling zero = []
falling (suc n) = n ∷ falling n

-- there is a place, and it is p or after it
abbrev pub is_from : ℕ → Option ℕ → Bool
is_from p None = false
is_from p (Some j) = nat_le p j

-- what opens at place i closes at place p or after it: where i is before the gap of p, this pair stands round the gap
abbrev pub is_enclosing : List Bool → ℕ → ℕ → Bool
is_enclosing bits p i = is_open bits i && is_from p (close_of bits i)

-- the opening place of the innermost pair that opens before a gap and closes at or after it: the one that opens last
unfoldable pub innermost : List Bool → ℕ → Option ℕ
innermost bits gap = find (is_enclosing bits gap) (falling gap)

-- the opening place of the innermost pair that is or encloses the pairs that open at i and at j: the one that opens
-- last
unfoldable pub common_of : List Bool → ℕ → ℕ → Option ℕ
common_of bits i j = find (λ k. is_enclosing bits i k && is_enclosing bits j k) (falling (min i j + 1))

-- more close than open from place `from` to place p, both included
abbrev pub closes_more : List Bool → ℕ → ℕ → Bool
closes_more bits from p = nat_lt (rank true bits (p + 1) + rank false bits from) (rank false bits (p + 1) + rank true bits from)

-- the place, and where there is none the end if it isn't even there
abbrev pub or_end : Option ℕ → Bool → ℕ → Option ℕ
or_end (Some p) even to = Some p
or_end None even to = if even then None else Some to

-- the first place from `from` on that closes what does not open there, or else `to` where some stay open
unfoldable pub balance_fault : List Bool → ℕ → ℕ → Option ℕ
balance_fault bits from to =
    or_end (find (closes_more bits from) (range_with_len from (to - from))) (rank true bits to + rank false bits from == rank false bits to + rank true bits from) to

-- the places from `from` to before `to` are balanced: each has its mate among them
abbrev pub is_balanced : List Bool → ℕ → ℕ → Bool
is_balanced bits from to = is_none (balance_fault bits from to)
