-- Nested lists: what is deep enough stays the same.
use Rattle.std.specs.Prelude.{flat_map, option_and_then}
use Rattle.std.proofs.Common.{◌≡◌, ◌≢◌, ℕ, zero, suc, ◌+◌, ◌-◌, ◌<◌, ◌≤◌, inl, inr, Bool, true, false, List, [], ◌∷◌, ◌++◌, map, length, refl, ap, sym, ◌∙◌, subst, arith, Option, Some, None, append_assoc, eq-eqb}
use Rattle.std.proofs.lemmas.Bool.{or_left, or_right}
use Rattle.plane_model.specs.Sets.{has}
use Rattle.region_tree.specs.Preorder.{nested}
use Rattle.region_tree.specs.Ancestors.{ancestor}
use Rattle.region_tree.proofs.Steps.{ancestor-zero, ancestor-one}

flat_map-same : {X : Type 0} (f g : ℕ → List X) (rs : List ℕ) → ((r : ℕ) → has rs r ≡ true → f r ≡ g r) → flat_map f rs ≡ flat_map g rs
flat_map-same f g [] same = refl
flat_map-same f g (r ∷ rs) same =
    ap (λ w. w ++ flat_map f rs) (same r (or_left _ _ (eq-eqb r r refl))) ∙ ap (λ w. g r ++ w) (flat_map-same f g rs (λ x h. same x (or_right _ _ h)))

flat_map-append : {X : Type 0} (f : ℕ → List X) (rs ss : List ℕ) → flat_map f (rs ++ ss) ≡ flat_map f rs ++ flat_map f ss
flat_map-append f [] ss = refl
flat_map-append f (r ∷ rs) ss = ap (λ w. f r ++ w) (flat_map-append f rs ss) ∙ sym (append_assoc (f r) (flat_map f rs) (flat_map f ss))

-- nothing lies deeper in these than n
Shallow : (ℕ → List ℕ) → ℕ → List ℕ → Type 0
Shallow inner zero rs = rs ≡ []
Shallow inner (suc n) rs = (r : ℕ) → has rs r ≡ true → Shallow inner n (inner r)

module _ {X : Type 0} (put : ℕ → List X → List X) (inner : ℕ → List ℕ) where
  pub nested-nil : (n : ℕ) → nested put n inner [] ≡ []
  unfolding nested
  nested-nil zero = refl
  nested-nil (suc n) = refl

  pub nested-append : (n : ℕ) (rs ss : List ℕ) → nested put n inner (rs ++ ss) ≡ nested put n inner rs ++ nested put n inner ss
  unfolding nested
  nested-append zero rs ss = refl
  nested-append (suc n) rs ss = flat_map-append (λ r. put r (nested put n inner (inner r))) rs ss

  nested-suc : (n q : ℕ) (rs : List ℕ) → nested put (suc n) inner (q ∷ rs) ≡ put q (nested put n inner (inner q)) ++ nested put (suc n) inner rs
  unfolding nested
  nested-suc n q rs = refl

  nested-deeper : (n : ℕ) (rs : List ℕ) → Shallow inner n rs → nested put (suc n) inner rs ≡ nested put n inner rs
  unfolding nested Shallow
  nested-deeper zero rs h = ap (nested put (suc zero) inner) h
  nested-deeper (suc n) rs h =
      flat_map-same (λ r. put r (nested put (suc n) inner (inner r))) (λ r. put r (nested put n inner (inner r))) rs
      (λ r there. ap (put r) (nested-deeper n (inner r) (h r there)))

-- what is inside something has that as its parent, and each chain of parents ends after n
pub record IsForest (up : ℕ → Option ℕ) (inner : ℕ → List ℕ) (dom : ℕ → Bool) (n : ℕ) : Type 0 where
  pub parent : (r c : ℕ) → dom r ≡ true → has (inner r) c ≡ true → up c ≡ Some r
  pub inside : (r c : ℕ) → dom r ≡ true → has (inner r) c ≡ true → dom c ≡ true
  pub end : (r : ℕ) → dom r ≡ true → ancestor up n (Some r) ≡ None

module _ (up : ℕ → Option ℕ) (inner : ℕ → List ℕ) (dom : ℕ → Bool) (n : ℕ) (forest : IsForest up inner dom n) where
  shallow : (d k : ℕ) (rs : List ℕ) → d + k ≡ n → ((r : ℕ) → has rs r ≡ true → (dom r ≡ true) × (ancestor up k (Some r) ≢ None)) → Shallow inner d rs
  unfolding Shallow ancestor
  shallow zero k [] e h = refl
  shallow zero k (r ∷ rs) e h =
      let here = h r (or_left _ _ (eq-eqb r r refl)) in
      let is : k ≡ n = omega arith in
      absurd (here.1 (ap (λ j. ancestor up j (Some r)) is ∙ forest.end r here.0))
  shallow (suc d) k rs e h = λ r there.
      let here = h r there in
      shallow d (suc k) (inner r) (omega arith) (λ c within. (forest.inside r c here.0 within, λ none. here.1 (ap (ancestor up k) (sym (forest.parent r c here.0 within)) ∙ none)))

  module _ {X : Type 0} (put : ℕ → List X → List X) where
    -- one of these, with those inside it, and the rest
    pub nested-one : (q : ℕ) (rs : List ℕ) → dom q ≡ true → nested put n inner (q ∷ rs) ≡ put q (nested put n inner (inner q)) ++ nested put n inner rs
    nested-one q rs there = at n refl
      where
        one : (m : ℕ) → n ≡ suc m → nested put (suc m) inner (q ∷ rs) ≡ put q (nested put (suc m) inner (inner q)) ++ nested put (suc m) inner rs
        one m e =
            let thin = shallow m 1 (inner q) (omega arith) (λ c within. (forest.inside q c there within, λ none. let is = forest.parent q c there within in let o = sym (ancestor-one up c) ∙ none in cc)) in
            nested-suc put inner m q rs ∙ ap (λ w. put q w ++ nested put (suc m) inner rs) (sym (nested-deeper put inner m (inner q) thin))

        at : (m : ℕ) → n ≡ m → nested put n inner (q ∷ rs) ≡ put q (nested put n inner (inner q)) ++ nested put n inner rs
        at zero e = let end = ap (λ k. ancestor up k (Some q)) (sym e) ∙ forest.end q there in let none = ancestor-zero up (Some q) in absurd (cc)
        at (suc m) e = subst (λ k. nested put k inner (q ∷ rs) ≡ put q (nested put k inner (inner q)) ++ nested put k inner rs) (sym e) (one m e)
