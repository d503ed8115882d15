-- Sets of the numbers below some count, each number in one: the list has, for each number, the least of its set.
use Rattle.std.specs.Prelude.{◌≡◌, ℕ, ◌<◌, ◌≤◌, ◌==◌, if◌then◌else◌, min, max, List, length, map, filter, slice_index}
use Rattle.std.specs.List.{range_with_len}

-- each number's least is no greater than it, and in its set
pub record AreSets (leasts : List ℕ) : Type 0 where
  pub below : (i : ℕ) → i < length leasts → slice_index leasts i ≤ i
  pub own : (i : ℕ) → i < length leasts → slice_index leasts (slice_index leasts i) ≡ slice_index leasts i

-- the sets where those of two numbers are one, whose least is the lesser of theirs
abbrev pub joined : List ℕ → ℕ → ℕ → List ℕ
joined leasts a b =
    let x = slice_index leasts a in
    let y = slice_index leasts b in
    map (λ least. if least == max x y then min x y else least) leasts

-- how many sets have a least number below k
abbrev pub sets_below : List ℕ → ℕ → ℕ
sets_below leasts k = length (filter (λ i. slice_index leasts i == i) (range_with_len 0 k))

-- how many sets there are, and the number of each member's set
pub record SetNumbers : Type 0 where
  pub count : ℕ
  pub of_members : List ℕ

-- the sets, numbered from 0 by their least numbers
abbrev pub numbered : List ℕ → SetNumbers
numbered leasts = record { count = sets_below leasts (length leasts); of_members = map (sets_below leasts) leasts }
