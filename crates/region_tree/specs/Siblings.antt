-- Places by the slot that they are in: the number of their parent, or for roots the number of places.
use Rattle.std.specs.Prelude.{ℕ, zero, suc, ◌≡◌, ◌+◌, ◌-◌, ◌==◌, ◌<◌, ◌≤◌, Bool, List, length, map, filter, find, slice_index, slice_index_or, Option, Some, None, unwrap_or}
use Rattle.std.specs.List.{range_with_len}
use Rattle.region_tree.specs.Ancestors.{parent_at}

-- the slots of these places
abbrev pub slots_of : List (Option ℕ) → List ℕ
slots_of parents = map (λ p. unwrap_or p (length parents)) parents

-- whether place k is in a slot
abbrev pub in_slot : List ℕ → ℕ → ℕ → Bool
in_slot slots s k = slice_index slots k == s

-- the places in a slot, from place i on
abbrev pub places_from : List ℕ → ℕ → ℕ → List ℕ
places_from slots s i = filter (in_slot slots s) (range_with_len i (length slots - i))

-- all places in a slot
abbrev pub places_in : List ℕ → ℕ → List ℕ
places_in slots s = places_from slots s 0

-- the first place in a slot, from place i on
abbrev pub first_from : List ℕ → ℕ → ℕ → Option ℕ
first_from slots s i = find (in_slot slots s) (range_with_len i (length slots - i))

-- the first place in each slot, from place i on, and behind each place from there on the next in its slot
pub record AreSiblingsFrom (slots : List ℕ) (i : ℕ) (first next : List (Option ℕ)) : Type 0 where
  pub first_many : length first ≡ length slots + 1
  pub next_many : length next ≡ length slots
  pub first_is : (s : ℕ) → s ≤ length slots → parent_at first s ≡ first_from slots s i
  pub next_is : (k : ℕ) → i ≤ k → k < length slots → parent_at next k ≡ first_from slots (slice_index slots k) (k + 1)

abbrev pub AreSiblings : List ℕ → List (Option ℕ) → List (Option ℕ) → Type 0
AreSiblings slots first next = AreSiblingsFrom slots 0 first next
