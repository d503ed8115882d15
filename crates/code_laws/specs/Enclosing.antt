-- The pairs of parentheses round a gap, as a stack of their numbers.
use Rattle.std.specs.Prelude.{ℕ, ◌≡◌, Bool, true, List, [], ◌∷◌, ◌++◌, map, filter, Option, Some, None}
use Rattle.std.specs.List.{range_with_len}
use Rattle.bit_words.specs.Bits.{rank}
use Rattle.parens.specs.Matching.{is_enclosing}

-- the opening places of the pairs round a gap, the outermost first
abbrev pub enclosing_places : List Bool → ℕ → List ℕ
enclosing_places bits gap = filter (is_enclosing bits gap) (range_with_len 0 gap)

-- their numbers
unfoldable pub enclosing_numbers : List Bool → ℕ → List ℕ
enclosing_numbers bits gap = map (rank true bits) (enclosing_places bits gap)

-- none where the list has none, and else its last number
abbrev pub IsLastOf : List ℕ → Option ℕ → Type 0
IsLastOf xs None = xs ≡ []
IsLastOf xs (Some x) = (front : List ℕ) × (xs ≡ front ++ x ∷ [])
