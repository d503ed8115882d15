-- Names as a rising list of the ids, the place of each number in it, and the inverse of the places.
use Rattle.std.specs.Prelude.{ℕ, ◌≡◌, ◌<◌, ◌+◌, ◌^◌, Bool, List, length, slice_index, Option}
use Rattle.bit_words.specs.Digits.{digits}
use Rattle.bit_words.specs.Lists.{tabulate}
use Rattle.id_names.specs.Rising.{rising_at}
use Rattle.id_names.specs.Inverse as inverse

-- the parts of names
pub record RisingNames : Type 0 where
  -- the high parts of the ids: for each high part from 0 on a one for each id that has it, and a zero
  pub high : List Bool
  -- the low parts, rising by id
  pub lows : List ℕ
  -- how many bits a low part has
  pub low : ℕ
  -- the place of each number in the rising list
  pub places : List ℕ
  -- which numbers have a back pointer, and these, by rising number
  pub marks : List Bool
  pub back : List ℕ

-- how many numbers there are
abbrev pub count : RisingNames → ℕ
count p = length p.places

-- what each id is below, where c ids have low parts of `low` bits
abbrev pub bound_of : ℕ → ℕ → ℕ
bound_of c low = 2 ^ (digits c + low)

-- what each id is below
abbrev pub id_bound : RisingNames → ℕ
id_bound p = bound_of (count p) p.low

-- the id at place j of the rising list
abbrev pub id_at : RisingNames → ℕ → ℕ
id_at p j = rising_at p.high p.lows p.low j

-- the ids are 1, 2, 3 and so on, with no gap among them
abbrev pub HasNoGap : RisingNames → Type 0
HasNoGap p = (j : ℕ) → j < count p → id_at p j ≡ j + 1

-- the ids by number
unfoldable pub ids_by_number : RisingNames → List ℕ
ids_by_number p = tabulate (count p) (λ k. id_at p (slice_index p.places k))

-- the number that the walk from place j comes to
abbrev pub number_at : RisingNames → ℕ → Option ℕ
number_at p j = inverse.number_at p.places p.marks p.back j
