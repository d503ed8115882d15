-- The least id that stands twice, with one id more in front.
use Rattle.std.proofs.Common.{◌≡◌, ℕ, suc, ◌≤◌, inl, inr, Bool, true, false, not, ◌==◌, List, ◌∷◌, refl, sym, ap, ◌∙◌, subst, arith, eq-eqb, Option, Some, None}
use Rattle.std.specs.Prelude.{nat_lt, min, unwrap_or}
use Rattle.std.proofs.lemmas.Bool.{eqb-true, cases_Bool, cases_lt, or_cases, or_left, or_right, both_ways, not-true, lt-ltb, le-ltb, ne_eqb}
use Rattle.plane_model.specs.Sets.{has, rising}
use Rattle.plane_model.specs.Orders.{how_often, IsLeast}
use Rattle.plane_model.specs.Faults.{least_twice}
use Rattle.plane_model.proofs.Sorting.{among, all_from, often_there, there_often, none_found, rising_least, rising_none, rising-all, least_found}
use Rattle.id_index.specs.Repeated.{with_id}

abbrev is_twice : List ℕ → ℕ → Bool
is_twice xs y = nat_lt 1 (how_often xs y)

module _ (x : ℕ) (xs : List ℕ) where
  -- how often another id stands is as before
  other : (y : ℕ) → (y == x) ≡ false → is_twice (x ∷ xs) y ≡ is_twice xs y
  other y e = rw e refl

  own : is_twice (x ∷ xs) x ≡ nat_lt 1 (suc (how_often xs x))
  own = rw (eq-eqb x x refl) refl

  behind : (y : ℕ) → (y == x) ≡ false → has (x ∷ xs) y ≡ true → has xs y ≡ true
  behind y e h = elim (or_cases (y == x) (has xs y) h) [ inl is ↦ absurd (both_ways (y == x) e is) | inr more ↦ more ]

  module _ (h : has xs x ≡ true) where
    own_twice : is_twice (x ∷ xs) x ≡ true
    own_twice = let some = there_often xs x h in own ∙ lt-ltb 1 (suc (how_often xs x)) (omega arith)

    own_least : ((y : ℕ) → (y == x) ≡ false → has xs y ≡ true → is_twice xs y ≡ true → x ≤ y) → IsLeast (is_twice (x ∷ xs)) (x ∷ xs) x
    own_least above = record {
      there = or_left _ _ (eq-eqb x x refl);
      passes = own_twice;
      least = λ y there passes. elim (cases_Bool (y == x)) [
        | inl e ↦ let is = eqb-true y x e in omega arith
        | inr e ↦ above y e (behind y e there) (sym (other y e) ∙ passes)
      ];
    }

    again : (o : Option ℕ) → least_twice xs ≡ o → IsLeast (is_twice (x ∷ xs)) (x ∷ xs) (min (unwrap_or o x) x)
    again None e =
        let none = rising_none (is_twice xs) xs e in
        let is : x ≡ min x x = omega arith in
        subst (IsLeast (is_twice (x ∷ xs)) (x ∷ xs)) is (own_least (λ y ne there passes. absurd (both_ways _ (not-true _ (among (λ z. not (is_twice xs z)) xs y none there)) passes)))
    again (Some r) e =
        let least = rising_least (is_twice xs) xs r e in
        elim (cases_lt r x) [
          | inl l ↦
              let is : r ≡ min r x = omega arith in
              let differ : (r == x) ≡ false = ne_eqb r x (λ same. omega arith) in
              subst (IsLeast (is_twice (x ∷ xs)) (x ∷ xs)) is (record {
                there = or_right _ _ least.there;
                passes = other r differ ∙ least.passes;
                least = λ y there passes. elim (cases_Bool (y == x)) [
                  | inl same ↦ let same_is = eqb-true y x same in omega arith
                  | inr ne ↦ least.least y (behind y ne there) (sym (other y ne) ∙ passes)
                ];
              })
          | inr l ↦
              let is : x ≡ min r x = omega arith in
              subst (IsLeast (is_twice (x ∷ xs)) (x ∷ xs)) is (own_least (λ y ne there passes. let above = least.least y there passes in omega arith))
        ]

  module _ (h : has xs x ≡ false) where
    own_once : is_twice (x ∷ xs) x ≡ false
    own_once =
        let none : how_often xs x ≡ 0 = elim (cases_lt 0 (how_often xs x)) [ inl some ↦ absurd (both_ways _ h (often_there xs x some)) | inr le ↦ omega arith ] in
        own ∙ le-ltb 1 (suc (how_often xs x)) (omega arith)

    not_again : (o : Option ℕ) → least_twice xs ≡ o → least_twice (x ∷ xs) ≡ o
    not_again None e =
        let none = rising_none (is_twice xs) xs e in
        none_found (is_twice (x ∷ xs)) (rising (x ∷ xs)) (rising-all (λ z. not (is_twice (x ∷ xs) z)) (x ∷ xs) ∙ all_from (λ z. not (is_twice (x ∷ xs) z)) (x ∷ xs) (λ y there. elim (cases_Bool (y == x)) [
          | inl same ↦ subst (λ z. not (is_twice (x ∷ xs) z) ≡ true) (sym (eqb-true y x same)) (ap not own_once)
          | inr ne ↦ ap not (other y ne) ∙ among (λ z. not (is_twice xs z)) xs y none (behind y ne there)
        ]))
    not_again (Some r) e =
        let least = rising_least (is_twice xs) xs r e in
        let differ : (r == x) ≡ false = ne_eqb r x (λ same. both_ways _ h (subst (λ z. has xs z ≡ true) same least.there)) in
        least_found (is_twice (x ∷ xs)) (x ∷ xs) r (record {
          there = or_right _ _ least.there;
          passes = other r differ ∙ least.passes;
          least = λ y there passes. elim (cases_Bool (y == x)) [
            | inl same ↦ absurd (both_ways _ own_once (subst (λ z. is_twice (x ∷ xs) z ≡ true) (eqb-true y x same) passes))
            | inr ne ↦ least.least y (behind y ne there) (sym (other y ne) ∙ passes)
          ];
        })

pub twice_in_front : (x : ℕ) (xs : List ℕ) → least_twice (x ∷ xs) ≡ with_id (least_twice xs) x (has xs x)
twice_in_front x xs = elim (cases_Bool (has xs x)) [
  | inl h ↦ rw h (least_found (is_twice (x ∷ xs)) (x ∷ xs) _ (again x xs h (least_twice xs) refl))
  | inr h ↦ rw h (not_again x xs h (least_twice xs) refl)
]
