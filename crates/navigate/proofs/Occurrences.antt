-- First occurrences of numbers: none stands twice, and names that differ carry them.
use Rattle.std.specs.Prelude.{not, map, ◌==◌, ◌||◌}
use Rattle.std.specs.List.{range_with_len}
use Rattle.std.proofs.Common.{◌≡◌, ℕ, ◌+◌, ◌≤◌, inl, inr, true, false, List, [], ◌∷◌, length, refl, ap, sym, ◌∙◌, arith, subst}
use Rattle.std.proofs.lemmas.Bool.{cases_Bool, eqb-true, eq-eqb, ne_eqb, eqb-false, or_cases, or_left, or_right, and_from, both_ways}
use Rattle.std.proofs.lemmas.List.FromFn.{length-range_with_len}
use Rattle.orbits.proofs.Numbers.{same_numbers, in_range}
use Rattle.orbits.proofs.Lists.{pigeon}
use Rattle.plane_model.specs.Sets.{has, is_distinct, first_occurrences_but}
use Rattle.navigate.specs.Beside.{others}

-- what was seen comes no more
pub occurrences-fresh : (seen xs : List ℕ) (j : ℕ) → has seen j ≡ true → has (first_occurrences_but seen xs) j ≡ false
occurrences-fresh seen [] j h = refl
occurrences-fresh seen (x ∷ xs) j h =
    elim (cases_Bool (has seen x)) [
      | inl w ↦ rw w (occurrences-fresh seen xs j h)
      | inr o ↦
          let off : (j == x) ≡ false = ne_eqb j x (λ e. both_ways (has seen x) o (subst (λ y. has seen y ≡ true) e h)) in
          rw o (ap (λ b. b || has (first_occurrences_but (x ∷ seen) xs) j) off ∙ occurrences-fresh (x ∷ seen) xs j (or_right (j == x) (has seen j) h))
    ]

pub occurrences-apart : (seen xs : List ℕ) → is_distinct (first_occurrences_but seen xs) ≡ true
occurrences-apart seen [] = refl
occurrences-apart seen (x ∷ xs) =
    elim (cases_Bool (has seen x)) [
      | inl w ↦ rw w (occurrences-apart seen xs)
      | inr o ↦ rw o (and_from (not (has (first_occurrences_but (x ∷ seen) xs) x)) (is_distinct (first_occurrences_but (x ∷ seen) xs))
          (ap not (occurrences-fresh (x ∷ seen) xs x (or_left (x == x) (has seen x) (eq-eqb x x refl)))) (occurrences-apart (x ∷ seen) xs))
    ]

pub few_below : (xs : List ℕ) (k : ℕ) → is_distinct xs ≡ true → ((x : ℕ) → has xs x ≡ true → x ≤ k) → length xs ≤ k + 1
few_below xs k apart below =
    let all : length xs ≤ length (range_with_len 0 (k + 1)) = pigeon same_numbers xs (range_with_len 0 (k + 1)) apart (λ d h. let b = below d h in in_range 0 (k + 1) d (omega arith) (omega (arith, b))) in
    let many = length-range_with_len 0 (k + 1) in
    omega (arith, all, many)

below-front : (k x : ℕ) (xs : List ℕ) → x ≤ k → ((y : ℕ) → has xs y ≡ true → y ≤ k) → (y : ℕ) → has (x ∷ xs) y ≡ true → y ≤ k
below-front k x xs l below y h =
    elim (or_cases (y == x) (has xs y) h) [
      | inl e ↦ let same = eqb-true y x e in omega (arith, same, l)
      | inr more ↦ below y more
    ]

-- names, where no two numbers up to k have one
module _ (g : ℕ → ℕ) (k : ℕ) (one : (p q : ℕ) → p ≤ k → q ≤ k → g p ≡ g q → p ≡ q) where
  name-test : (p q : ℕ) → p ≤ k → q ≤ k → (g p == g q) ≡ (p == q)
  name-test p q a b =
      elim (cases_Bool (p == q)) [
        | inl w ↦ eq-eqb (g p) (g q) (ap g (eqb-true p q w)) ∙ sym w
        | inr o ↦ ne_eqb (g p) (g q) (λ e. eqb-false p q o (one p q a b e)) ∙ sym o
      ]

  own : (x : ℕ) (xs : List ℕ) → ((y : ℕ) → has (x ∷ xs) y ≡ true → y ≤ k) → x ≤ k
  own x xs below = below x (or_left (x == x) (has xs x) (eq-eqb x x refl))

  has-named : (xs : List ℕ) → ((y : ℕ) → has xs y ≡ true → y ≤ k) → (p : ℕ) → p ≤ k → has (map g xs) (g p) ≡ has xs p
  has-named [] below p l = refl
  has-named (x ∷ xs) below p l =
      ap (λ b. b || has (map g xs) (g p)) (name-test p x l (own x xs below)) ∙ ap (λ b. (p == x) || b) (has-named xs (λ y h. below y (or_right (y == x) (has xs y) h)) p l)

  pub others-named : (place : ℕ) → place ≤ k → (xs : List ℕ) → ((y : ℕ) → has xs y ≡ true → y ≤ k) → others (g place) (map g xs) ≡ map g (others place xs)
  others-named place up [] below = refl
  others-named place up (x ∷ xs) below =
      let more = others-named place up xs (λ y h. below y (or_right (y == x) (has xs y) h)) in
      let same = name-test x place (own x xs below) up in
      elim (cases_Bool (x == place)) [
        | inl w ↦ rw (same ∙ w, w) more
        | inr o ↦ rw (same ∙ o, o) (ap (λ ys. g x ∷ ys) more)
      ]

  pub occurrences-named : (seen xs : List ℕ) → ((y : ℕ) → has seen y ≡ true → y ≤ k) → ((y : ℕ) → has xs y ≡ true → y ≤ k) → first_occurrences_but (map g seen) (map g xs) ≡ map g (first_occurrences_but seen xs)
  occurrences-named seen [] before below = refl
  occurrences-named seen (x ∷ xs) before below =
      let l = own x xs below in
      let same = has-named seen before x l in
      elim (cases_Bool (has seen x)) [
        | inl w ↦ rw (same ∙ w, w) (occurrences-named seen xs before (λ y h. below y (or_right (y == x) (has xs y) h)))
        | inr o ↦ rw (same ∙ o, o) (ap (λ ys. g x ∷ ys) (occurrences-named (x ∷ seen) xs (below-front k x seen l before) (λ y h. below y (or_right (y == x) (has xs y) h))))
      ]
