-- What is listed of the places that pass a test, and lists with the same numbers.
use Rattle.std.proofs.Common.{◌≡◌, ℕ, zero, suc, ◌+◌, ◌<◌, inl, inr, Bool, true, false, cond, not, ◌&&◌, ◌||◌, ◌==◌, List, [], ◌∷◌, length, refl, sym, ap, ◌∙◌, arith, eq-eqb}
use Rattle.std.specs.Prelude.{nat_lt}
use Rattle.std.proofs.lemmas.Bool.{and_parts, and_from, or_cases, or_left, or_right, cases_Bool, cases_eq, eqb-true, both_ways, ltb-true}
use Rattle.std.specs.List.{list_all}
use Rattle.plane_model.specs.Sets.{has, is_distinct}
use Rattle.plane_model.specs.Orders.{is_strictly_rising}
use Rattle.plane_model.proofs.Sorting as sorting
use Rattle.cycle_pairs.specs.Pairs.{pairs}

-- the names of the places below k that pass
unfoldable pub listed : (ℕ → Bool) → (ℕ → ℕ) → ℕ → List ℕ
listed p name zero = []
listed p name (suc k) = cond (p k) (name k ∷ listed p name k) (listed p name k)

pub from_listed : (p : ℕ → Bool) (name : ℕ → ℕ) (k x : ℕ) → has (listed p name k) x ≡ true → (i : ℕ) × (i < k) × (p i ≡ true) × (name i ≡ x)
unfolding listed
from_listed p name zero x h = absurd (both_ways false refl h)
from_listed p name (suc k) x h = elim (cases_Bool (p k)) [
  | inl e ↦
      let h' : (x == name k || has (listed p name k) x) ≡ true = rw e at h in
      elim (or_cases (x == name k) (has (listed p name k) x) h') [
        | inl is ↦ (k, omega arith, e, sym (eqb-true x (name k) is))
        | inr more ↦ let r = from_listed p name k x more in let l : r.0 < k = r.1 in (r.0, omega arith, r.2, r.3)
      ]
  | inr e ↦
      let h' : has (listed p name k) x ≡ true = rw e at h in
      let r = from_listed p name k x h' in
      let l : r.0 < k = r.1 in (r.0, omega arith, r.2, r.3)
]

pub in_listed : (p : ℕ → Bool) (name : ℕ → ℕ) (k i : ℕ) → i < k → p i ≡ true → has (listed p name k) (name i) ≡ true
unfolding listed
in_listed p name zero i l h = absurd (omega arith)
in_listed p name (suc k) i l h = elim (cases_eq i k) [
  | inl e ↦ rw (ap p (sym e) ∙ h) (or_left _ _ (eq-eqb (name i) (name k) (ap name e)))
  | inr other ↦
      let there = in_listed p name k i (omega arith) h in
      elim (cases_Bool (p k)) [ inl y ↦ rw y (or_right (name i == name k) _ there) | inr n ↦ rw n there ]
]

pub listed_apart : (p : ℕ → Bool) (name : ℕ → ℕ) (k : ℕ) → ((i j : ℕ) → i < k → j < k → p i ≡ true → p j ≡ true → name i ≡ name j → i ≡ j) → is_distinct (listed p name k) ≡ true
unfolding listed
listed_apart p name zero one = refl
listed_apart p name (suc k) one =
    let before = listed_apart p name k (λ i j il jl. one i j (omega arith) (omega arith)) in
    elim (cases_Bool (p k)) [
      | inl e ↦ rw e (and_from (not (has (listed p name k) (name k))) (is_distinct (listed p name k))
          (elim (cases_Bool (has (listed p name k) (name k))) [
            | inl there ↦
                let r = from_listed p name k (name k) there in
                let l : r.0 < k = r.1 in
                let same : r.0 ≡ k = one r.0 k (omega arith) (omega arith) r.2 e r.3 in
                absurd (omega arith)
            | inr none ↦ rw none refl
          ])
          before)
      | inr e ↦ rw e before
    ]

-- the places that pass the one test are those that begin a pair and those that pass the other as well
pub pairs_and_listed : (mate : ℕ → ℕ) (p q : ℕ → Bool) (name name2 : ℕ → ℕ) (k : ℕ) → ((i : ℕ) → i < k → nat_lt i (mate i) ≡ (q i && not (p i)))
    → pairs mate k + length (listed (λ i. p i && q i) name k) ≡ length (listed q name2 k)
unfolding listed
pairs_and_listed mate p q name name2 zero begins = refl
pairs_and_listed mate p q name name2 (suc k) begins =
    let before = pairs_and_listed mate p q name name2 k (λ i l. begins i (omega arith)) in
    let here = begins k (omega arith) in
    elim (cases_Bool (p k)) [
      | inl y ↦ elim (cases_Bool (q k)) [
        | inl y2 ↦ rw (here, y, y2) (omega (arith, before))
        | inr n2 ↦ rw (here, y, n2) before
      ]
      | inr n ↦ elim (cases_Bool (q k)) [
        | inl y2 ↦ rw (here, n, y2) (omega (arith, before))
        | inr n2 ↦ rw (here, n, n2) before
      ]
    ]

pub strictly_apart : (xs : List ℕ) → is_strictly_rising xs ≡ true → is_distinct xs ≡ true
strictly_apart [] h = refl
strictly_apart (x ∷ xs) h =
    let parts = and_parts (list_all (nat_lt x) xs) (is_strictly_rising xs) h in
    and_from (not (has xs x)) (is_distinct xs)
    (elim (cases_Bool (has xs x)) [ inl there ↦ let lt = ltb-true x x (sorting.among (nat_lt x) xs x parts.0 there) in absurd (omega arith) | inr none ↦ rw none refl ])
    (strictly_apart xs parts.1)
