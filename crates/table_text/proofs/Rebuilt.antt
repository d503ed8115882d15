-- Rows that are made again from what stands at their keys: of each key one, rising by key.
use Rattle.std.proofs.Common.{◌≡◌, ℕ, suc, ◌≤◌, inl, inr, Bool, true, false, ◌==◌, if◌then◌else◌, List, [], ◌∷◌, map, filter, length, Some, None, refl, sym, ap, ◌∙◌, subst, arith, eq-eqb}
use Rattle.std.specs.Prelude.{IsPermutation, nat_lt, find, slice_get, option_map}
use Rattle.std.specs.List.{list_all}
use Rattle.std.proofs.lemmas.Bool.{and_parts, and_from, cases_Bool, eqb-true, eqb-false, ne_eqb, ltb-true, false_from_ne_true}
use Rattle.std.proofs.lemmas.List.{length-map}
use Rattle.std.proofs.lemmas.List.Folds.{list_all-map}
use Rattle.std.proofs.lemmas.List.Sorted.{IsPermutation-refl, IsPermutation-map, length_permutation}
use Rattle.plane_model.specs.Sets.{map_by, has, is_distinct, rising}
use Rattle.plane_model.specs.Orders.{is_strictly_rising}
use Rattle.table_text.specs.RowsOfMap.{AreSorted}
use Rattle.plane_model.proofs.Sorting.{rising-all, rising-has, rising-permutation, rising_rises, rising_strictly, is_rising_of, among}

pub rising_twice : (xs : List ℕ) → rising (rising xs) ≡ rising xs
rising_twice xs = sym (is_rising_of (rising xs) (rising xs) (IsPermutation-refl (rising xs)) (rising_rises xs))

-- numbers that rise strictly are distinct
strictly_apart : (xs : List ℕ) → is_strictly_rising xs ≡ true → is_distinct xs ≡ true
strictly_apart [] h = refl
strictly_apart (x ∷ xs) h =
    let parts = and_parts (list_all (nat_lt x) xs) (is_strictly_rising xs) h in
    let none : has xs x ≡ false = false_from_ne_true _ (λ there. let l = ltb-true x x (among (nat_lt x) xs x parts.0 there) in absurd (omega (arith, l))) in
    and_from _ _ (rw none refl) (strictly_apart xs parts.1)

pub rising_apart : (xs : List ℕ) → is_distinct xs ≡ true → is_distinct (rising xs) ≡ true
rising_apart xs h = strictly_apart (rising xs) (rising_strictly xs h)

pub length-rising : (xs : List ℕ) → length (rising xs) ≡ length xs
length-rising xs = length_permutation xs (rising xs) (rising-permutation xs)

pub filter_all : (p : ℕ → Bool) (xs : List ℕ) → list_all p xs ≡ true → filter p xs ≡ xs
filter_all p [] h = refl
filter_all p (x ∷ xs) h = let parts = and_parts (p x) (list_all p xs) h in rw parts.0 (ap (λ ys. x ∷ ys) (filter_all p xs parts.1))

pub all_filtered : (q p : ℕ → Bool) (xs : List ℕ) → list_all q xs ≡ true → list_all q (filter p xs) ≡ true
all_filtered q p [] h = refl
all_filtered q p (x ∷ xs) h =
    let parts = and_parts (q x) (list_all q xs) h in
    elim (cases_Bool (p x)) [ inl e ↦ rw e (and_from _ _ parts.0 (all_filtered q p xs parts.1)) | inr e ↦ rw e (all_filtered q p xs parts.1) ]

pub all_pass : (p : ℕ → Bool) (xs : List ℕ) → list_all p (filter p xs) ≡ true
all_pass p [] = refl
all_pass p (x ∷ xs) = elim (cases_Bool (p x)) [ inl e ↦ rw e (and_from _ _ e (all_pass p xs)) | inr e ↦ rw e (all_pass p xs) ]

pub fewer_filtered : (p : ℕ → Bool) (xs : List ℕ) → length (filter p xs) ≤ length xs
fewer_filtered p [] = omega arith
fewer_filtered p (x ∷ xs) = let more = fewer_filtered p xs in elim (cases_Bool (p x)) [ inl e ↦ rw e (omega arith) | inr e ↦ rw e (omega arith) ]

-- what stands at the key of each row is the row
abbrev pub IsBack : {R : Type 0} → (R → ℕ) → (ℕ → R) → List R → Type 0
IsBack {R} key back rows = (k : ℕ) (r : R) → slice_get rows k ≡ Some r → back (key r) ≡ r

rows_back : {R : Type 0} (key : R → ℕ) (back : ℕ → R) (rows : List R) → IsBack key back rows → map back (map key rows) ≡ rows
rows_back key back [] h = refl
rows_back key back (r ∷ rows) h =
    let first : back (key r) ≡ r = h 0 r refl in
    let more = rows_back key back rows (λ k x e. h (suc k) x e) in
    rw (first, more) refl

keys_back : {R : Type 0} (key : R → ℕ) (back : ℕ → R) (rows : List R) → IsBack key back rows → list_all (λ x. key (back x) == x) (map key rows) ≡ true
keys_back key back [] h = refl
keys_back key back (r ∷ rows) h = and_from _ _ (eq-eqb (key (back (key r))) (key r) (ap key (h 0 r refl))) (keys_back key back rows (λ k x e. h (suc k) x e))

keys_same : {R : Type 0} (key : R → ℕ) (back : ℕ → R) (ks : List ℕ) → list_all (λ x. key (back x) == x) ks ≡ true → map key (map back ks) ≡ ks
keys_same key back [] all = refl
keys_same key back (k ∷ ks) all =
    let parts = and_parts (key (back k) == k) (list_all (λ x. key (back x) == x) ks) all in
    let own = eqb-true (key (back k)) k parts.0 in
    let more = keys_same key back ks parts.1 in
    rw (own, more) refl

-- what is found at a number is what stands there, where the number is a key
found : {R : Type 0} (key : R → ℕ) (back : ℕ → R) (x : ℕ) (ks : List ℕ) → list_all (λ y. key (back y) == y) ks ≡ true
    → find (λ r. key r == x) (map back ks) ≡ (if has ks x then Some (back x) else None)
found key back x [] all = refl
found key back x (k ∷ ks) all =
    let parts = and_parts (key (back k) == k) (list_all (λ y. key (back y) == y) ks) all in
    let own = eqb-true (key (back k)) k parts.0 in
    elim (cases_Bool (x == k)) [
      | inl e ↦
          let is = eqb-true x k e in
          let here : (key (back k) == x) ≡ true = eq-eqb (key (back k)) x (own ∙ sym is) in
          rw (here, e) (ap (λ y. Some (back y)) (sym is))
      | inr e ↦
          let other : (key (back k) == x) ≡ false = ne_eqb (key (back k)) x (λ is. eqb-false x k e (sym is ∙ own)) in
          rw (other, e) (found key back x ks parts.1)
    ]

module _ {R : Type 0} (key : R → ℕ) (back : ℕ → R) (rows : List R) (h : IsBack key back rows) where
  rising_back : list_all (λ x. key (back x) == x) (rising (map key rows)) ≡ true
  rising_back = rising-all (λ x. key (back x) == x) (map key rows) ∙ keys_back key back rows h

  keys_again : map key (map back (rising (map key rows))) ≡ rising (map key rows)
  keys_again = keys_same key back (rising (map key rows)) rising_back

  pub same_keys : rising (map key (map back (rising (map key rows)))) ≡ rising (map key rows)
  same_keys = ap rising keys_again ∙ rising_twice (map key rows)

  pub same_found : (x : ℕ) → find (λ r. key r == x) (map back (rising (map key rows))) ≡ find (λ r. key r == x) rows
  same_found x =
      found key back x (rising (map key rows)) rising_back
      ∙ ap (λ (b : Bool). if b then Some (back x) else None) (rising-has (map key rows) x)
      ∙ sym (found key back x (map key rows) (keys_back key back rows h))
      ∙ ap (find (λ r. key r == x)) (rows_back key back rows h)

  pub same_all : (q : R → Bool) → list_all q (map back (rising (map key rows))) ≡ list_all q rows
  same_all q =
      list_all-map q back (rising (map key rows))
      ∙ rising-all (λ k. q (back k)) (map key rows)
      ∙ sym (list_all-map q back (map key rows))
      ∙ ap (list_all q) (rows_back key back rows h)

  pub apart_again : is_distinct (map key rows) ≡ true → is_distinct (map key (map back (rising (map key rows)))) ≡ true
  apart_again apart = ap is_distinct keys_again ∙ rising_apart (map key rows) apart

  pub as_many : length (map back (rising (map key rows))) ≡ length rows
  as_many = length-map (rising (map key rows)) back ∙ length-rising (map key rows) ∙ length-map rows key

  -- and they make the same map
  pub same_map_by : {X : Type 0} (value : R → X) → map_by key value (map back (rising (map key rows))) ≡ map_by key value rows
  same_map_by value = λ i. record { keys = same_keys i; at = λ x. option_map value (same_found x i) }

  pub sorted_again : is_distinct (map key rows) ≡ true → AreSorted key rows (map back (rising (map key rows)))
  sorted_again apart =
      record {
        permutation = subst (λ rs. IsPermutation rs (map back (rising (map key rows)))) (rows_back key back rows h) (IsPermutation-map back (map key rows) (rising (map key rows)) (rising-permutation (map key rows)));
        rising = ap is_strictly_rising keys_again ∙ rising_strictly (map key rows) apart;
      }
