-- Rows that are added one by one.
use Rattle.std.specs.Prelude.{map}
use Rattle.std.specs.List.{range_with_len}
use Rattle.std.proofs.Common.{◌≡◌, ℕ, ◌+◌, List, [], ◌∷◌, ◌++◌, refl, ap, sym, ◌∙◌, arith, append_assoc}
use Rattle.std.proofs.lemmas.List.FromFn.{map-range_with_len_more}

behind : {R : Type 0} (before some now more : List R) (r : R) → now ≡ before ++ some → more ≡ now ++ r ∷ [] → more ≡ before ++ (some ++ r ∷ [])
behind before some now more r is on = on ∙ ap (λ xs. xs ++ r ∷ []) is ∙ append_assoc before some (r ∷ [])

-- one row more behind those of the first i numbers from `a` on
pub one_more : {R : Type 0} (row : ℕ → R) (a i : ℕ) (before now more : List R) → now ≡ before ++ map row (range_with_len a i) → more ≡ now ++ row (a + i) ∷ [] → more ≡ before ++ map row (range_with_len a (i + 1))
one_more row a i before now more is on =
    behind before (map row (range_with_len a i)) now more (row (a + i)) is on ∙ sym (ap (λ xs. before ++ xs) (map-range_with_len_more row a i (a + i) refl))

-- map after map
pub map-map : {A B C : Type 0} (f : B → C) (g : A → B) (xs : List A) → map f (map g xs) ≡ map (λ x. f (g x)) xs
map-map f g [] = refl
map-map f g (x ∷ xs) = ap (λ ys. f (g x) ∷ ys) (map-map f g xs)

-- the same for rows of places
pub one_place_more : {P R : Type 0} (row : P → R) (place : ℕ → P) (i : ℕ) (before now more : List R) → now ≡ before ++ map row (map place (range_with_len 0 i)) → more ≡ now ++ row (place i) ∷ [] → more ≡ before ++ map row (map place (range_with_len 0 (i + 1)))
one_place_more row place i before now more is on =
    one_more (λ k. row (place k)) 0 i before now more (is ∙ ap (λ xs. before ++ xs) (map-map row place (range_with_len 0 i))) (on ∙ ap (λ k. now ++ row (place k) ∷ []) (omega arith))
    ∙ sym (ap (λ xs. before ++ xs) (map-map row place (range_with_len 0 (i + 1))))
