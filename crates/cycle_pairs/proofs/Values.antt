-- As many different values as are colours of the points below n: there are no more than the colours.
use Rattle.std.proofs.Common.{◌≡◌, ℕ, zero, suc, ◌<◌, ◌≤◌, List, [], ◌∷◌, length, get_or, true, false, not, ◌==◌, cond, inl, inr, refl, sym, ap, ◌∙◌, subst, arith, eq-eqb}
use Rattle.std.proofs.lemmas.Bool.{and_from, cases_eq, cond-false, cases_Bool, eqb-true, false_from_ne_true, or_cases, or_left, or_right, both_ways}
use Rattle.orbits.specs.Points.{has, is_distinct}
use Rattle.orbits.proofs.Lists.{pigeon}
use Rattle.orbits.proofs.Numbers.{same_numbers, place_in, has_place, apart_at}
use Rattle.cycle_pairs.specs.Pairs.{is_used, colours}
use Rattle.cycle_pairs.proofs.Walk.{used_true, unused}

-- the different colours of the points below n
firsts : (ℕ → ℕ) → ℕ → List ℕ
firsts c zero = []
firsts c (suc k) = cond (is_used c (c k) k) (firsts c k) (c k ∷ firsts c k)

colours_firsts : (c : ℕ → ℕ) (n : ℕ) → colours c n ≡ length (firsts c n)
unfolding firsts
colours_firsts c zero = refl
colours_firsts c (suc k) = let more = colours_firsts c k in elim (cases_Bool (is_used c (c k) k)) [ inl used ↦ rw used more | inr new ↦ rw new (ap suc more) ]

in_firsts : (c : ℕ → ℕ) (n i : ℕ) → i < n → has (λ (x y : ℕ). x == y) (firsts c n) (c i) ≡ true
unfolding firsts
in_firsts c zero i l = absurd (omega arith)
in_firsts c (suc k) i l = elim (cases_Bool (is_used c (c k) k)) [
  | inl used ↦ elim (cases_eq i k) [
    | inl is ↦
        let r = used_true c (c k) k used in
        let there = in_firsts c k r.0 r.1 in
        rw used (subst (λ v. has (λ (x y : ℕ). x == y) (firsts c k) v ≡ true) (r.2 ∙ ap c (sym is)) there)
    | inr other ↦ let there = in_firsts c k i (omega arith) in rw used there
  ]
  | inr new ↦ elim (cases_eq i k) [
    | inl is ↦ rw new (or_left _ _ (eq-eqb (c i) (c k) (ap c is)))
    | inr other ↦ let there = in_firsts c k i (omega arith) in rw new (or_right (c i == c k) _ there)
  ]
]

from_firsts : (c : ℕ → ℕ) (n v : ℕ) → has (λ (x y : ℕ). x == y) (firsts c n) v ≡ true → (i : ℕ) × (i < n) × (c i ≡ v)
unfolding firsts
from_firsts c zero v h = absurd (both_ways false refl h)
from_firsts c (suc k) v h = elim (cases_Bool (is_used c (c k) k)) [
  | inl used ↦ let h' : has (λ (x y : ℕ). x == y) (firsts c k) v ≡ true = rw used at h in let r = from_firsts c k v h' in let l : r.0 < k = r.1 in (r.0, omega arith, r.2)
  | inr new ↦
      let h' : has (λ (x y : ℕ). x == y) (c k ∷ firsts c k) v ≡ true = rw new at h in
      elim (or_cases (v == c k) (has (λ (x y : ℕ). x == y) (firsts c k) v) h') [
        | inl is ↦ (k, omega arith, sym (eqb-true v (c k) is))
        | inr more ↦ let r = from_firsts c k v more in let l : r.0 < k = r.1 in (r.0, omega arith, r.2)
      ]
]

firsts_apart : (c : ℕ → ℕ) (n : ℕ) → is_distinct (λ (x y : ℕ). x == y) (firsts c n) ≡ true
unfolding firsts
firsts_apart c zero = refl
firsts_apart c (suc k) =
    let more = firsts_apart c k in
    elim (cases_Bool (is_used c (c k) k)) [
      | inl used ↦ rw used more
      | inr new ↦
          let none : has (λ (x y : ℕ). x == y) (firsts c k) (c k) ≡ false = false_from_ne_true _ (λ on. let r = from_firsts c k (c k) on in unused c (c k) k r.0 new r.1 r.2) in
          rw new (and_from (not (has (λ (x y : ℕ). x == y) (firsts c k) (c k))) _ (rw none refl) more)
    ]

-- where each colour of c below n is a colour of d below m, d has no fewer there
pub carried : (c d : ℕ → ℕ) (n m : ℕ) → ((i : ℕ) → i < n → (j : ℕ) × (j < m) × (d j ≡ c i)) → colours c n ≤ colours d m
carried c d n m h =
    let most = pigeon same_numbers (firsts c n) (firsts d m) (firsts_apart c n) (λ v on.
    let i = from_firsts c n v on in
    let j = h i.0 i.1 in
    subst (λ x. has (λ (x y : ℕ). x == y) (firsts d m) x ≡ true) (j.2 ∙ i.2) (in_firsts d m j.0 j.1)) in
    omega (arith, most, colours_firsts c n, colours_firsts d m)

-- where points of one d-colour have one c-colour, there are no more c-colours
pub factored : (c d : ℕ → ℕ) (n : ℕ) → ((i j : ℕ) → i < n → j < n → d i ≡ d j → c i ≡ c j) → colours c n ≤ colours d n
factored c d zero h = omega arith
factored c d (suc k) h =
    let more = factored c d k (λ i j il jl. h i j (omega arith) (omega arith)) in
    elim (cases_Bool (is_used d (d k) k)) [
      | inl used ↦ elim (cases_Bool (is_used c (c k) k)) [
        | inl also ↦ rw (used, also) more
        | inr new ↦ let r = used_true d (d k) k used in let l : r.0 < k = r.1 in absurd (unused c (c k) k r.0 new r.1 (h r.0 k (omega arith) (omega arith) r.2))
      ]
      | inr fresh ↦ elim (cases_Bool (is_used c (c k) k)) [ inl also ↦ rw (fresh, also) (omega (arith, more)) | inr new ↦ rw (fresh, new) (omega (arith, more)) ]
    ]

-- different values, each of which is a colour, are no more than the colours
pub values_few : (c : ℕ → ℕ) (n : ℕ) (values : List ℕ)
    → ((k : ℕ) → k < length values → (i : ℕ) × (i < n) × (c i ≡ get_or values k 0))
    → ((j k : ℕ) → j < k → k < length values → get_or values j 0 ≡ get_or values k 0 → ⊥)
    → length values ≤ colours c n
values_few c n values shown differ =
    let most = pigeon same_numbers values (firsts c n) (apart_at values differ) (λ v on.
    let k = place_in values v on in
    let i = shown k.0 k.1 in
    subst (λ x. has (λ (x y : ℕ). x == y) (firsts c n) x ≡ true) (i.2 ∙ k.2) (in_firsts c n i.0 i.1)) in
    omega (arith, most, colours_firsts c n)

pub colours-le : (c : ℕ → ℕ) (n : ℕ) → colours c n ≤ n
colours-le c zero = omega arith
colours-le c (suc n) = let more = colours-le c n in elim (cases_Bool (is_used c (c n) n)) [ inl used ↦ rw used (omega arith) | inr new ↦ rw new (omega arith) ]

-- where each colour is one of the values, there are no more colours than values
pub values_many : (c : ℕ → ℕ) (n : ℕ) (values : List ℕ) → ((i : ℕ) → i < n → (k : ℕ) × (k < length values) × (get_or values k 0 ≡ c i)) → colours c n ≤ length values
values_many c n values found =
    let most = pigeon same_numbers (firsts c n) values (firsts_apart c n) (λ v on.
    let i = from_firsts c n v on in
    let k = found i.0 i.1 in
    subst (λ x. has (λ (x y : ℕ). x == y) values x ≡ true) (k.2 ∙ i.2) (has_place values k.0 k.1)) in
    omega (arith, most, colours_firsts c n)

-- fewer colours than points: some point has the colour of an earlier one
pub repeated : (c : ℕ → ℕ) (n : ℕ) → colours c n < n → (b : ℕ) × (b < n) × (is_used c (c b) b ≡ true)
repeated c zero h = absurd (omega arith)
repeated c (suc n) h = elim (cases_Bool (is_used c (c n) n)) [
  | inl used ↦ (n, omega arith, used)
  | inr new ↦
      let step : colours c (suc n) ≡ suc (colours c n) = cond-false (is_used c (c n) n) (colours c n) (suc (colours c n)) new in
      let r = repeated c n (omega arith) in
      let l : r.0 < n = r.1 in (r.0, omega arith, r.2)
]
