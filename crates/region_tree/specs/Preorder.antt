-- Things that lie in one another: each before those inside it, and their parentheses.
use Rattle.std.specs.Prelude.{ℕ, zero, suc, Bool, true, false, List, [], ◌∷◌, ◌++◌, flat_map}

-- what `put` makes of each of these and of what it made of those inside it, one after the other, at most n deep; `inner
-- r` are those right inside r
unfoldable pub nested : {X : Type 0} → (ℕ → List X → List X) → ℕ → (ℕ → List ℕ) → List ℕ → List X
nested put zero inner rs = []
nested put (suc n) inner rs = flat_map (λ r. put r (nested put n inner (inner r))) rs

-- each of these, followed by those inside it
abbrev pub preorder : ℕ → (ℕ → List ℕ) → List ℕ → List ℕ
preorder n inner rs = nested (λ r within. r ∷ within) n inner rs

-- a 1 where each of these opens and a 0 where it closes, with those inside it between
abbrev pub brackets : ℕ → (ℕ → List ℕ) → List ℕ → List Bool
brackets n inner rs = nested (λ r within. true ∷ (within ++ (false ∷ []))) n inner rs
