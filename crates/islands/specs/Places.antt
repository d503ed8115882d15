-- Where components are.
use Rattle.std.specs.Prelude.{ℕ, List}

-- for each component, in one order: the smallest dart of its outer ring, and the face that contains it
pub record Places : Type 0 where
  pub starts : List ℕ
  pub faces : List ℕ
