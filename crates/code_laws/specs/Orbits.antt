-- Walks over positions, and the positions with one number.
use Rattle.std.specs.Prelude.{ℕ, ◌==◌, Bool, true, false, ◌&&◌, List, ◌++◌, ◌-◌, filter, length, Option, Some, None}
use Rattle.std.specs.List.{range_with_len}
use Rattle.orbits.specs.Walks as walks
use Rattle.code_laws.specs.Code.{Code, positions, component_of, step}
use Rattle.code_laws.specs.Numbers.{enclosing_pair}

-- p, f p, f (f p) and so on up to the first return to `first`: the first n of these
abbrev pub walk : ℕ → (ℕ → ℕ) → ℕ → ℕ → List ℕ
walk n f first p = walks.until_return (λ x y. x == y) n f first p

abbrev pub orbit : Code → Bool → ℕ → List ℕ
orbit c kind p = walk (length c.a) (step c kind) p p

abbrev pub same_number : Option ℕ → Option ℕ → Bool
same_number None None = true
same_number None (Some j) = false
same_number (Some i) None = false
same_number (Some i) (Some j) = i == j

-- whether two positions have the same pair of a kind round their gaps, or none in the same component
abbrev pub is_beside : Code → Bool → ℕ → ℕ → Bool
is_beside c kind p q = (component_of c p == component_of c q) && same_number (enclosing_pair c kind p) (enclosing_pair c kind q)

-- the positions beside p, rising
abbrev pub beside : Code → Bool → ℕ → List ℕ
beside c kind p = filter (is_beside c kind p) (positions c)

-- the positions from p on to the last, and then from the first to before p
abbrev pub from_on : Code → ℕ → List ℕ
from_on c p = range_with_len p (length c.a - p) ++ range_with_len 0 p
