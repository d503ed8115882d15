-- Rows of ids.
use Rattle.std.specs.Prelude.{ℕ, ◌==◌, List, position, Option}

-- the first row in which an id stands
abbrev pub first_row : List ℕ → ℕ → Option ℕ
first_row ids id = position (λ x. x == id) ids
