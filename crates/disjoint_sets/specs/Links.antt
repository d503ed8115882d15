-- Links from numbers to lesser ones of their sets; the least of a set has a link to itself.
use Rattle.std.specs.Prelude.{ℕ, zero, suc, ◌<◌, ◌≤◌, List, length, map, slice_index}
use Rattle.std.specs.List.{range_with_len}

-- where so many links lead to
unfoldable pub led : ℕ → List ℕ → ℕ → ℕ
led zero links i = i
led (suc n) links i = led n links (slice_index links i)

-- no link leads to a greater number
abbrev pub AreLinks : List ℕ → Type 0
AreLinks links = (i : ℕ) → i < length links → slice_index links i ≤ i

-- the least number of each number's set
abbrev pub leasts : List ℕ → List ℕ
leasts links = map (λ i. led (length links) links i) (range_with_len 0 (length links))
