-- Names: an id for each number from 0 on.
use Rattle.std.specs.Prelude.{ℕ, ◌≡◌, ◌==◌, ◌<◌, ◌≤◌, Bool, ◌&&◌, nat_le, nat_lt, List, length, find, slice_index, Option}
use Rattle.std.specs.List.{range_with_len, list_all}
use Rattle.bit_words.specs.Lists.{is_at}

-- whether a number is one that an id below `bound` may have
abbrev pub is_id : ℕ → ℕ → Bool
is_id bound id = nat_le 1 id && nat_lt id bound

-- no two numbers have one id
abbrev pub AreDistinct : List ℕ → Type 0
AreDistinct ids = (j k : ℕ) → j < length ids → k < length ids → slice_index ids j ≡ slice_index ids k → j ≡ k

-- ids, each at least 1 and below `bound`, and no two the same
pub record AreDistinctIds (bound : ℕ) (ids : List ℕ) : Type 0 where
  pub in_range : (k : ℕ) → k < length ids → (1 ≤ slice_index ids k) × (slice_index ids k < bound)
  pub distinct : AreDistinct ids

-- the number that has an id, none where no number has it
unfoldable pub number_of : List ℕ → ℕ → Option ℕ
number_of ids id = find (λ k. slice_index ids k == id) (range_with_len 0 (length ids))

-- each id is in range, and each number is the one that its id has: `AreDistinctIds` as a test
unfoldable pub is_names : ℕ → List ℕ → Bool
is_names bound ids = list_all (λ k. is_id bound (slice_index ids k) && is_at (number_of ids (slice_index ids k)) k) (range_with_len 0 (length ids))
