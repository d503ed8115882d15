-- The parts that are made of ids, each as a list.
use Rattle.std.specs.Prelude.{ℕ, if◌then◌else◌, ◌%◌, ◌/◌, ◌^◌, ◌≡◌, ◌==◌, Bool, true, false, nat_lt, List, [], ◌∷◌, ◌++◌, map, length, count_by, find, flat_map, replicate, unwrap_or, max}
use Rattle.std.specs.List.{range_with_len}
use Rattle.bit_words.specs.Bits.{fields_in}
use Rattle.bit_words.specs.Digits.{digits}
use Rattle.bit_words.specs.Lists.{tabulate}
use Rattle.bit_words.specs.Packed.{Packs}
use Rattle.id_names.specs.Cycles.{marked, back_pointers}
use Rattle.id_names.specs.Inverse.{stride}
use Rattle.id_names.specs.RisingNames.{RisingNames}

-- how many of the ids are below one
abbrev pub below : List ℕ → ℕ → ℕ
below ids id = count_by (λ other. nat_lt other id) ids

-- the place of each number among the ids, rising: how many are below its id
unfoldable pub places_of : List ℕ → List ℕ
places_of ids = map (below ids) ids

-- the id at each place: the one that has so many below it
unfoldable pub rising : List ℕ → List ℕ
rising ids = tabulate (length ids) (λ j. unwrap_or (find (λ id. below ids id == j) ids) 0)

-- the low parts, rising by id
abbrev pub low_parts : ℕ → List ℕ → List ℕ
low_parts low ids = map (λ id. id % 2 ^ low) (rising ids)

-- a one for each id that has this high part, and a zero
abbrev pub bucket : ℕ → List ℕ → ℕ → List Bool
bucket low ids high = replicate (count_by (λ id. id / 2 ^ low == high) ids) true ++ (false ∷ [])

-- these for each high part from 0 on
unfoldable pub high_bits : ℕ → List ℕ → List Bool
high_bits low ids = flat_map (bucket low ids) (range_with_len 0 (2 ^ digits (length ids)))

-- how many bits a place has
abbrev pub place_width : ℕ → ℕ
place_width c = max 1 (digits c)

-- How far marks stand from one another in what is made of c ids: as far as walks may go where that is 4 members at most,
-- and else each member of a cycle of several is marked, so that a walk makes 2 tests at most.
abbrev pub spacing : ℕ → ℕ
spacing c = if nat_lt 4 (stride c) then 1 else stride c

-- the parts that are made of these ids
abbrev pub made : ℕ → List ℕ → RisingNames
made low ids = record {
  high = high_bits low ids;
  lows = low_parts low ids;
  low = low;
  places = places_of ids;
  marks = marked (places_of ids) (spacing (length ids));
  back = back_pointers (places_of ids) (spacing (length ids));
}

-- these words hold these numbers by so many bits each, and no other bit is 1
pub record HoldsFields (words : List ℕ) (width : ℕ) (items : List ℕ) : Type 0 where
  pub packs : Packs words (length items) width
  pub fields : fields_in words (length items) width ≡ items
