-- Four searches side by side.
use Rattle.std.proofs.Common.{◌≡◌, ℕ, List, [], ◌∷◌, map, length, get_or, refl, arith, Option}

-- a list of four, item by item
pub each_of_four : {A : Type 0} (out : A) (f : A → Option ℕ) (xs : List A) → length xs ≡ 4 → (f (get_or xs 0 out) ∷ f (get_or xs 1 out) ∷ f (get_or xs 2 out) ∷ f (get_or xs 3 out) ∷ []) ≡ map f xs
each_of_four out f (a ∷ b ∷ d ∷ e ∷ []) n = refl
each_of_four out f [] n = absurd (omega arith)
each_of_four out f (a ∷ []) n = absurd (omega arith)
each_of_four out f (a ∷ b ∷ []) n = absurd (omega arith)
each_of_four out f (a ∷ b ∷ d ∷ []) n = absurd (omega arith)
each_of_four out f (a ∷ b ∷ d ∷ e ∷ x ∷ xs) n = absurd (omega arith)
