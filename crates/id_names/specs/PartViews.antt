-- What the parts of a view stand for.
use Rattle.std.specs.Prelude.{ℕ, ◌<◌, ◌≤◌, ◌≡◌, length, Option}
use Rattle.bit_words.specs.PackedView.{fields_of, width_of}
use Rattle.rank_select.specs.RankView.{counted}
use Rattle.id_names.specs.Rising.{high_part, rising_at}
use Rattle.id_names.specs.Inverse as inverse
use Rattle.id_names.specs.RisingNames.{RisingNames, bound_of}
use Rattle.id_names.specs.declared.rising_ids.RisingIds.{RisingIds}
use Rattle.id_names.specs.declared.inverse.Inverse.{Inverse}

-- the id at place j
abbrev pub id_in : RisingIds → ℕ → ℕ
id_in v j = rising_at (counted v.high) (fields_of v.lows) (width_of v.lows) j

-- what each id is below
abbrev pub bound_in : RisingIds → ℕ
bound_in v = bound_of (length (fields_of v.lows)) (width_of v.lows)

-- the number that the walk from place j comes to
abbrev pub number_in : Inverse → ℕ → Option ℕ
number_in v j = inverse.number_at (fields_of v.places) (counted v.marks) (fields_of v.back) j

-- the names of these ids and this inverse
abbrev pub names_over : RisingIds → Inverse → RisingNames
names_over ids inverse = record {
  high = counted ids.high;
  lows = fields_of ids.lows;
  low = width_of ids.lows;
  places = fields_of inverse.places;
  marks = counted inverse.marks;
  back = fields_of inverse.back;
}

-- the places from `from` to before `to` are those whose id has this high part
pub record IsBucket (v : RisingIds) (high from to : ℕ) : Type 0 where
  pub order : from ≤ to
  pub count : to ≤ length (fields_of v.lows)
  pub below : (k : ℕ) → k < from → high_part (counted v.high) k < high
  pub within : (k : ℕ) → from ≤ k → k < to → high_part (counted v.high) k ≡ high
  pub above : (k : ℕ) → to ≤ k → k < length (fields_of v.lows) → high < high_part (counted v.high) k
