-- A walk over places that lie in one another.
use Rattle.std.specs.Prelude.{ℕ, ◌≡◌, ◌<◌, nat_lt, if◌then◌else◌, Bool, true, false, List, [], ◌∷◌, ◌++◌, length, slice_index, Option, Some, None}
use Rattle.region_tree.specs.Preorder.{nested, preorder, brackets}
use Rattle.region_tree.specs.Ancestors.{ancestor, parent_at}
use Rattle.region_tree.specs.Siblings.{places_in, places_from}
use Rattle.region_tree.specs.declared.walk.Step.{Step}
use Rattle.region_tree.specs.declared.walk.Step.TheVariants as step

-- the place that a place is right inside, if it is inside any
abbrev pub above : List ℕ → ℕ → Option ℕ
above slots k = let s = slice_index slots k in if nat_lt s (length slots) then Some s else None

-- no chain of these is longer than the places are many
pub record AreForest (slots : List ℕ) : Type 0 where
  pub ends : (k : ℕ) → k < length slots → ancestor (above slots) (length slots) (Some k) ≡ None

-- these places, with those inside them, as parentheses, and in order
abbrev pub bits_in : List ℕ → List ℕ → List Bool
bits_in slots ks = brackets (length slots) (places_in slots) ks

abbrev pub order_in : List ℕ → List ℕ → List ℕ
order_in slots ks = preorder (length slots) (places_in slots) ks

-- what a step has still to give: a place with those behind it in its slot, or the end of a place
abbrev pub step_bits : List ℕ → Step → List Bool
step_bits slots (step.Open k) = bits_in slots (places_from slots (slice_index slots k) k)
step_bits slots step.Close = false ∷ []

abbrev pub step_order : List ℕ → Step → List ℕ
step_order slots (step.Open k) = order_in slots (places_from slots (slice_index slots k) k)
step_order slots step.Close = []

-- what steps have still to give, the last of them first
unfoldable pub left_of : {X : Type 0} → (Step → List X) → List Step → List X
left_of give [] = []
left_of give (s ∷ steps) = left_of give steps ++ give s

-- the step of a place, if there is one
abbrev pub steps_of : Option ℕ → List Step
steps_of None = []
steps_of (Some k) = step.Open k ∷ []

-- a place to be opened is one
abbrev pub is_step_within : ℕ → Step → Bool
is_step_within n (step.Open k) = nat_lt k n
is_step_within n step.Close = true

-- after place k is opened: those inside it are to be done first, then its end, then those behind it
pub record IsOpened (before after : List Step) (first next : List (Option ℕ)) (k : ℕ) : Type 0 where
  pub places : after ≡ ((before ++ steps_of (parent_at next k)) ++ step.Close ∷ []) ++ steps_of (parent_at first k)
