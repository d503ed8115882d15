-- What it says that a path of so many moves leads from one face to another, and that the fewest are so many.
use Rattle.std.specs.Prelude.{find}
use Rattle.std.specs.List.{list_any}
use Rattle.std.proofs.Common.{◌≡◌, ℕ, zero, suc, ◌+◌, ◌<◌, ◌≤◌, ◌⊎◌, inl, inr, Bool, true, false, ◌==◌, List, [], ◌∷◌, ◌++◌, length, refl, sym, ap, ◌∙◌, subst, arith, Some, None}
use Rattle.std.proofs.lemmas.Bool.{cases_Bool, cases_lt, eqb-true, eq-eqb, or_cases, or_left, or_right}
use Rattle.orbits.proofs.Lists.{any_from, some_that}
use Rattle.orbits.proofs.Numbers.{same_numbers}
use Rattle.plane_model.specs.Sets.{has, or_else}
use Rattle.plane_model.specs.PlaneMap.{PlaneMap}
use Rattle.plane_model.specs.Lists.{adjacent}
use Rattle.plane_model.specs.Hops.{is_within, up_to, distance}

-- the first of the numbers up to n that passes

find-append : (p : ℕ → Bool) (xs ys : List ℕ) → find p (xs ++ ys) ≡ or_else (find p xs) (find p ys)
find-append p [] ys = refl
find-append p (x ∷ xs) ys = elim (cases_Bool (p x)) [ inl e ↦ rw e refl | inr e ↦ rw e (find-append p xs ys) ]

none_up : (p : ℕ → Bool) (n : ℕ) → ((j : ℕ) → j ≤ n → p j ≡ false) → find p (up_to n) ≡ None
none_up p zero none = rw (none 0 (omega arith)) refl
none_up p (suc n) none =
    let front : find p (up_to n) ≡ None = none_up p n (λ j l. none j (omega (arith, l))) in
    let last : find p (suc n ∷ []) ≡ None = rw (none (suc n) (omega arith)) refl in
    find-append p (up_to n) (suc n ∷ []) ∙ ap (λ o. or_else o (find p (suc n ∷ []))) front ∙ last

pub first_up : (p : ℕ → Bool) (n k : ℕ) → k ≤ n → p k ≡ true → ((j : ℕ) → j < k → p j ≡ false) → find p (up_to n) ≡ Some k
first_up p zero k l here before =
    let is : k ≡ 0 = omega (arith, l) in
    let at : p 0 ≡ true = subst (λ x. p x ≡ true) is here in
    rw at (ap Some (sym is))
first_up p (suc n) k l here before = elim (cases_lt n k) [
  | inl above ↦
      let is : k ≡ suc n = omega (arith, l, above) in
      let front : find p (up_to n) ≡ None = none_up p n (λ j m. before j (omega (arith, m, above))) in
      let at : p (suc n) ≡ true = subst (λ x. p x ≡ true) is here in
      let last : find p (suc n ∷ []) ≡ Some (suc n) = rw at refl in
      find-append p (up_to n) (suc n ∷ []) ∙ ap (λ o. or_else o (find p (suc n ∷ []))) front ∙ last ∙ ap Some (sym is)
  | inr low ↦ find-append p (up_to n) (suc n ∷ []) ∙ ap (λ o. or_else o (find p (suc n ∷ []))) (first_up p n k low here before)
]

-- what it says that a number is the first
pub record IsLeastUpTo (p : ℕ → Bool) (n k : ℕ) : Type 0 where
  pub low : k ≤ n
  pub here : p k ≡ true
  pub before : (j : ℕ) → j < k → p j ≡ false

-- the least number up to n that passes, if one does
pub least_up : (p : ℕ → Bool) (n : ℕ) → ((k : ℕ) × IsLeastUpTo p n k) ⊎ ((j : ℕ) → j ≤ n → p j ≡ false)
least_up p zero = elim (cases_Bool (p 0)) [
  | inl e ↦ inl (0, record { low = omega arith; here = e; before = λ j l. absurd (omega (arith, l)) })
  | inr e ↦ inr (λ j l. let is : j ≡ 0 = omega (arith, l) in subst (λ x. p x ≡ false) (sym is) e)
]
least_up p (suc n) = elim (least_up p n) [
  | inl k ↦ let low = k.1.low in inl (k.0, record { low = omega (arith, low); here = k.1.here; before = k.1.before })
  | inr none ↦ elim (cases_Bool (p (suc n))) [
    | inl e ↦ inl (suc n, record { low = omega arith; here = e; before = λ j l. none j (omega (arith, l)) })
    | inr e ↦ inr (λ j l. elim (cases_lt n j) [
      | inl above ↦ let is : j ≡ suc n = omega (arith, l, above) in subst (λ x. p x ≡ false) (sym is) e
      | inr low ↦ none j low
    ])
  ]
]

-- paths

pub within-more : (n : ℕ) (m : PlaneMap) (f g : ℕ) → is_within n m f g ≡ true → is_within (suc n) m f g ≡ true
within-more zero m f g h = or_left (f == g) _ h
within-more (suc n) m f g h = elim (or_cases (f == g) (list_any (λ x. is_within n m x g) (adjacent m f)) h) [
  | inl e ↦ or_left (f == g) _ e
  | inr more ↦
      let s = some_that same_numbers (λ x. is_within n m x g) (adjacent m f) more in
      or_right (f == g) _ (any_from same_numbers (λ x. is_within (suc n) m x g) (adjacent m f) s.0 s.1 (within-more n m s.0 g s.2))
]

pub within-later : (k n : ℕ) (m : PlaneMap) (f g : ℕ) → n ≤ k → is_within n m f g ≡ true → is_within k m f g ≡ true
within-later zero n m f g l h = let is : n ≡ 0 = omega (arith, l) in subst (λ x. is_within x m f g ≡ true) is h
within-later (suc k) n m f g l h = elim (cases_lt k n) [
  | inl above ↦ let is : n ≡ suc k = omega (arith, l, above) in subst (λ x. is_within x m f g ≡ true) is h
  | inr low ↦ within-more k m f g (within-later k n m f g low h)
]

pub within-self : (n : ℕ) (m : PlaneMap) (f g : ℕ) → f ≡ g → is_within n m f g ≡ true
within-self n m f g e = within-later n 0 m f g (omega arith) (eq-eqb f g e)

pub within-step : (n : ℕ) (m : PlaneMap) (f x g : ℕ) → has (adjacent m f) x ≡ true → is_within n m x g ≡ true → is_within (suc n) m f g ≡ true
within-step n m f x g beside h = or_right (f == g) _ (any_from same_numbers (λ y. is_within n m y g) (adjacent m f) x beside h)

-- where a path of some moves begins
pub within_cases : (n : ℕ) (m : PlaneMap) (f g : ℕ) → is_within (suc n) m f g ≡ true → (f ≡ g) ⊎ ((x : ℕ) × (has (adjacent m f) x ≡ true) × (is_within n m x g ≡ true))
within_cases n m f g h = elim (or_cases (f == g) (list_any (λ x. is_within n m x g) (adjacent m f)) h) [
  | inl e ↦ inl (eqb-true f g e)
  | inr more ↦ inr (some_that same_numbers (λ x. is_within n m x g) (adjacent m f) more)
]

pub within-join : (a b : ℕ) (m : PlaneMap) (f g h : ℕ) → is_within a m f g ≡ true → is_within b m g h ≡ true → is_within (a + b) m f h ≡ true
within-join zero b m f g h one two =
    let is = eqb-true f g one in
    within-later (0 + b) b m f h (omega arith) (subst (λ x. is_within b m x h ≡ true) (sym is) two)
within-join (suc a) b m f g h one two = elim (within_cases a m f g one) [
  | inl is ↦ within-later (suc a + b) b m f h (omega arith) (subst (λ x. is_within b m x h ≡ true) (sym is) two)
  | inr s ↦
      let more = within-step (a + b) m f s.0 h s.1 (within-join a b m s.0 g h s.2 two) in
      within-later (suc a + b) (suc (a + b)) m f h (omega arith) more
]

-- distances

pub distance_is : (m : PlaneMap) (f g k : ℕ) → k ≤ length m.faces + 1 → is_within k m f g ≡ true → ((j : ℕ) → j < k → is_within j m f g ≡ false) → distance m f g ≡ Some k
distance_is m f g k l here before = first_up (λ n. is_within n m f g) (length m.faces + 1) k l here before

pub distance_none : (m : PlaneMap) (f g : ℕ) → ((j : ℕ) → is_within j m f g ≡ false) → distance m f g ≡ None
distance_none m f g none = none_up (λ n. is_within n m f g) (length m.faces + 1) (λ j l. none j)

-- a distance that is some has a path of so many moves, and none of fewer
pub distance_first : (m : PlaneMap) (f g k : ℕ) → distance m f g ≡ Some k → IsLeastUpTo (λ n. is_within n m f g) (length m.faces + 1) k
distance_first m f g k e = elim (least_up (λ n. is_within n m f g) (length m.faces + 1)) [
  | inl j ↦
      let is : Some k ≡ Some j.0 = sym e ∙ distance_is m f g j.0 j.1.low j.1.here j.1.before in
      let same : k ≡ j.0 = cc in
      subst (λ x. IsLeastUpTo (λ n. is_within n m f g) (length m.faces + 1) x) (sym same) j.1
  | inr none ↦ let no : Some k ≡ None = sym e ∙ none_up (λ n. is_within n m f g) (length m.faces + 1) none in cc
]
