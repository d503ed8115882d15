-- The bytes of a table without quotes, and the fields that they are cut into.
use Rattle.std.specs.Prelude.{◌≡◌, ◌==◌, ◌||◌, ℕ, Bool, true, not, List, [], ◌∷◌, ◌++◌}
use Rattle.std.specs.List.{list_all}

-- whether a byte ends a line
abbrev pub ends_line : ℕ → Bool
ends_line b = (b == 13) || (b == 10)

-- whether a byte ends a field
abbrev pub ends_field : ℕ → Bool
ends_field b = (b == 44) || ends_line b

-- whether a byte is a quote
abbrev pub is_quote : ℕ → Bool
is_quote b = b == 34

-- no byte is a quote
abbrev pub has_no_quote : List ℕ → Bool
has_no_quote bytes = list_all (λ b. not (is_quote b)) bytes

-- whether a field ends in front of these bytes
abbrev pub is_end_before : List ℕ → Bool
is_end_before [] = true
is_end_before (b ∷ bytes) = ends_field b

-- whether a record may begin with these bytes, as no line ends there
abbrev pub begins_record : List ℕ → Bool
begins_record [] = true
begins_record (b ∷ bytes) = not (ends_line b)

-- bytes are cut into the field at their front and what is behind it
pub record IsCut (bytes text behind : List ℕ) : Type 0 where
  pub joined : bytes ≡ text ++ behind
  pub inside : list_all (λ b. not (ends_field b)) text ≡ true
  pub ended : is_end_before behind ≡ true
