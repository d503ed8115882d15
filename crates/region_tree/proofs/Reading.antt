-- Reading parentheses from the front: how deep they end, how many around, and what is around where each opens.
use Rattle.std.specs.Prelude.{option_map, flat_map, count_by, take}
use Rattle.std.proofs.Common.{◌≡◌, ℕ, zero, suc, ◌+◌, ◌-◌, ◌<◌, ◌≤◌, inl, inr, Bool, true, false, List, [], ◌∷◌, ◌++◌, map, length, refl, ap, sym, ◌∙◌, subst, arith, Option, Some, None, append_assoc, rules}
use Rattle.std.proofs.lemmas.List.{length-append}
use Rattle.region_tree.specs.Preorder.{nested, preorder, brackets}

abbrev put_number : ℕ → List ℕ → List ℕ
put_number r within = r ∷ within

abbrev put_brackets : ℕ → List Bool → List Bool
put_brackets r within = true ∷ (within ++ (false ∷ []))

-- one that opens, with those inside it and after it
opened : (xs ys zs : List Bool) → ((true ∷ (xs ++ (false ∷ []))) ++ ys) ++ zs ≡ (true ∷ (xs ++ (false ∷ (ys ++ zs))))
opened xs ys zs = ap (λ w. true ∷ (w ++ zs)) (append_assoc xs (false ∷ []) ys) ∙ ap (λ w. true ∷ w) (append_assoc xs (false ∷ ys) zs)

numbered : (r : ℕ) (xs ys zs : List ℕ) → ((r ∷ xs) ++ ys) ++ zs ≡ (r ∷ (xs ++ (ys ++ zs)))
numbered r xs ys zs = ap (λ w. r ∷ w) (append_assoc xs ys zs)

-- ---- how deep parentheses end that begin at a depth, if none closes what did not around
unfoldable pub ends : ℕ → List Bool → Option ℕ
ends d [] = Some d
ends d (true ∷ bits) = ends (suc d) bits
ends zero (false ∷ bits) = None
ends (suc d) (false ∷ bits) = ends d bits

-- ---- how many open
unfoldable pub ones : List Bool → ℕ
ones [] = 0
ones (true ∷ bits) = suc (ones bits)
ones (false ∷ bits) = ones bits

-- ---- what is open where each opens, the names of those that open given in order
unfoldable pub first : List ℕ → Option ℕ
first [] = None
first (x ∷ xs) = Some x

unfoldable pub rest : List ℕ → List ℕ
rest [] = []
rest (x ∷ xs) = xs

unfoldable pub uppers : List Bool → List ℕ → List ℕ → List (Option ℕ)
uppers [] names around = []
uppers (true ∷ bits) [] around = []
uppers (true ∷ bits) (r ∷ names) around = first around ∷ uppers bits names (r ∷ around)
uppers (false ∷ bits) names around = uppers bits names (rest around)

-- the names that each of these is right inside
unfoldable pub insides : ℕ → (ℕ → List ℕ) → Option ℕ → List ℕ → List (Option ℕ)
insides zero inner up rs = []
insides (suc n) inner up rs = flat_map (λ r. up ∷ insides n inner (Some r) (inner r)) rs

module _ (inner : ℕ → List ℕ) where
  pub ends-brackets : (n : ℕ) (rs : List ℕ) (d : ℕ) (bits : List Bool) → ends d (brackets n inner rs ++ bits) ≡ ends d bits
  unfolding nested ends
  ends-brackets zero rs d bits = refl
  ends-brackets (suc n) [] d bits = refl
  ends-brackets (suc n) (r ∷ rs) d bits =
      ap (ends d) (opened (brackets n inner (inner r)) (brackets (suc n) inner rs) bits)
      ∙ ends-brackets n (inner r) (suc d) (false ∷ (brackets (suc n) inner rs ++ bits))
      ∙ ends-brackets (suc n) rs d bits

  pub ones-brackets : (n : ℕ) (rs : List ℕ) (bits : List Bool) → ones (brackets n inner rs ++ bits) ≡ length (preorder n inner rs) + ones bits
  unfolding nested ones
  ones-brackets zero rs bits = omega arith
  ones-brackets (suc n) [] bits = omega arith
  ones-brackets (suc n) (r ∷ rs) bits =
      let e = ap ones (opened (brackets n inner (inner r)) (brackets (suc n) inner rs) bits) in
      let in_one = ones-brackets n (inner r) (false ∷ (brackets (suc n) inner rs ++ bits)) in
      let more = ones-brackets (suc n) rs bits in
      let long = length-append (r ∷ preorder n inner (inner r)) (preorder (suc n) inner rs) in
      omega (arith, e, in_one, more, long)

  pub uppers-brackets : (n : ℕ) (rs : List ℕ) (bits : List Bool) (names around : List ℕ) → uppers (brackets n inner rs ++ bits) (preorder n inner rs ++ names) around ≡ insides n inner (first around) rs ++ uppers bits names around
  unfolding nested uppers insides first rest
  uppers-brackets zero rs bits names around = refl
  uppers-brackets (suc n) [] bits names around = refl
  uppers-brackets (suc n) (r ∷ rs) bits names around =
      ap (λ w. uppers w (preorder (suc n) inner (r ∷ rs) ++ names) around) (opened (brackets n inner (inner r)) (brackets (suc n) inner rs) bits)
      ∙ ap (λ w. uppers (true ∷ (brackets n inner (inner r) ++ (false ∷ (brackets (suc n) inner rs ++ bits)))) w around) (numbered r (preorder n inner (inner r)) (preorder (suc n) inner rs) names)
      ∙ ap (λ w. first around ∷ w) (uppers-brackets n (inner r) (false ∷ (brackets (suc n) inner rs ++ bits)) (preorder (suc n) inner rs ++ names) (r ∷ around))
      ∙ ap (λ w. first around ∷ (insides n inner (Some r) (inner r) ++ w)) (uppers-brackets (suc n) rs bits names around)
      ∙ ap (λ w. first around ∷ w) (sym (append_assoc (insides n inner (Some r) (inner r)) (insides (suc n) inner (first around) rs) (uppers bits names around)))

-- names given by a function
pub uppers-map : (f : ℕ → ℕ) (bits : List Bool) (names around : List ℕ) → uppers bits (map f names) (map f around) ≡ map (option_map f) (uppers bits names around)
unfolding uppers first rest
uppers-map f [] names around = refl
uppers-map f (true ∷ bits) [] around = refl
uppers-map f (true ∷ bits) (r ∷ names) [] = ap (λ w. None ∷ w) (uppers-map f bits names (r ∷ []))
uppers-map f (true ∷ bits) (r ∷ names) (x ∷ around) = ap (λ w. Some (f x) ∷ w) (uppers-map f bits names (r ∷ x ∷ around))
uppers-map f (false ∷ bits) names [] = uppers-map f bits names []
uppers-map f (false ∷ bits) names (x ∷ around) = uppers-map f bits names around
