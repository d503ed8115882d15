-- Steps up from numbers to their parents.
use Rattle.std.specs.Prelude.{ℕ, zero, suc, ◌≡◌, ◌+◌, ◌<◌, ◌≤◌, Bool, true, nat_le, if◌then◌else◌, List, length, map, slice_index_or, Option, Some, None, option_and_then}
use Rattle.std.specs.List.{range_with_len, list_any}
use Rattle.bit_words.specs.Lists.{is_at}

-- the parent of the number at a place, if it has one
abbrev pub parent_at : List (Option ℕ) → ℕ → Option ℕ
parent_at parents k = slice_index_or parents k None

-- each parent is the number of a place
abbrev pub AreParentNumbers : List (Option ℕ) → Type 0
AreParentNumbers parents = (k p : ℕ) → parent_at parents k ≡ Some p → p < length parents

-- n steps up
unfoldable pub ancestor : (ℕ → Option ℕ) → ℕ → Option ℕ → Option ℕ
ancestor up zero o = o
ancestor up (suc n) o = ancestor up n (option_and_then up o)

-- whether at most n steps up, and one at least, lead back
unfoldable pub comes_back : (ℕ → Option ℕ) → ℕ → ℕ → Bool
comes_back up n k = list_any (λ j. is_at (ancestor up (j + 1) (Some k)) k) (range_with_len 0 n)

-- where so many steps lead from each place
abbrev pub ancestors : List (Option ℕ) → ℕ → List (Option ℕ)
ancestors parents steps = map (λ k. ancestor (parent_at parents) steps (Some k)) (range_with_len 0 (length parents))

-- where some steps, as many as there are places at least, lead from each place
pub record IsFarUp (parents far : List (Option ℕ)) : Type 0 where
  pub steps : ℕ
  pub enough : length parents ≤ steps
  pub is : far ≡ ancestors parents steps

-- the lesser of two numbers, where there are any
abbrev pub lesser : Option ℕ → Option ℕ → Option ℕ
lesser None b = b
lesser (Some a) None = Some a
lesser (Some a) (Some b) = if nat_le a b then Some a else Some b

-- the least of the first n numbers, where there are any
abbrev pub IsLeastOf : List (Option ℕ) → ℕ → Option ℕ → Type 0
IsLeastOf xs n None = (k : ℕ) → k < n → parent_at xs k ≡ None
IsLeastOf xs n (Some p) = ((k : ℕ) × (k < n) × (parent_at xs k ≡ Some p)) × ((k q : ℕ) → k < n → parent_at xs k ≡ Some q → p ≤ q)
