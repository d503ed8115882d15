-- The pointers of marked numbers: how many there are, how large they are, and where each stands.
use Rattle.std.specs.Prelude.{filter_map, is_some, min, fold, map, count_by, nat_lt, ◌&&◌}
use Rattle.std.proofs.Common.{◌≡◌, ℕ, zero, suc, ◌+◌, ◌-◌, ◌*◌, ◌/◌, ◌%◌, ◌^◌, ◌<◌, ◌≤◌, ◌==◌, Bool, true, false, cond, inl, inr, List, [], ◌∷◌, take, length, get_or, refl, ap, sym, subst, ◌∙◌, arith, Option, Some, None}
use Rattle.std.specs.List.{All, position_or_len}
use Rattle.std.proofs.Math.Nat.{div-mul-le_self, pow-le-pow_right}
use Rattle.std.proofs.lemmas.Bool.{cases_Bool, cases_lt}
use Rattle.std.proofs.lemmas.List.{length-map}
use Rattle.std.proofs.lemmas.List.FromFn.{length-map-range_with_len, get_or-map-range_with_len}
use Rattle.std.proofs.lemmas.List.Elements.{All-from_get_or}
use Rattle.std.proofs.lemmas.List.Sums.{prefix_len-le-length}
use Rattle.bit_words.specs.Bits.{same}
use Rattle.bit_words.specs.Digits.{digits}
use Rattle.bit_words.specs.Lists.{tabulate}
use Rattle.bit_words.proofs.DigitLaws.{digits-pow}
use Rattle.id_names.specs.Cycles.{IsPlacePermutation, cycle, least_member, mark_at, mark_of, marks_of, marked, back_pointers}
use Rattle.id_names.specs.Making.{place_width, spacing}
use Rattle.id_names.specs.Inverse.{stride}
use Rattle.id_names.proofs.Counting.{count_yes, count_no}
use Rattle.id_names.proofs.DigitBounds.{below_power}
use Rattle.id_names.proofs.Members.{members_of}

-- marks stand apart, and the width of a place
pub stride_some : (c : ℕ) → 1 ≤ stride c
stride_some c = elim (cases_lt 0 (digits (c + 2))) [
  | inl some ↦ some
  | inr none ↦ (let z : digits (c + 2) ≡ 0 = omega arith in let e : 2 ^ digits (c + 2) ≡ 1 = ap (λ d. 2 ^ d) z in absurd (omega (arith, below_power (c + 2))))
]

pub spacing_some : (c : ℕ) → 1 ≤ spacing c
spacing_some c = elim (cases_Bool (nat_lt 4 (stride c))) [ inl far ↦ rw far (omega arith) | inr near ↦ rw near (stride_some c) ]

pub spacing_near : (c : ℕ) → spacing c ≤ stride c
spacing_near c = elim (cases_Bool (nat_lt 4 (stride c))) [ inl far ↦ rw far (stride_some c) | inr near ↦ rw near (omega arith) ]

pub width_narrow : (c : ℕ) → c ≤ 16777216 → place_width c ≤ 31
width_narrow c h = let d = digits-pow c 25 (omega arith) in omega arith

pub place_fits : (c x : ℕ) → x < c → x < 2 ^ place_width c
place_fits c x h =
    let two : 0 < 2 = omega arith in
    let wide : digits c ≤ place_width c = omega arith in
    let p : 2 ^ digits c ≤ 2 ^ place_width c = pow-le-pow_right two wide in
    omega (arith, below_power c)

pub places_fit : (places : List ℕ) → IsPlacePermutation places → All (λ x. x < 2 ^ place_width (length places)) places
places_fit places are = All-from_get_or (λ x. x < 2 ^ place_width (length places)) places 0 (λ k h. place_fits (length places) (get_or places k 0) (are.below k h))

-- the values of some options
pub length-values : (os : List (Option ℕ)) → length (filter_map (λ o. o) os) ≤ length os
length-values [] = omega arith
length-values (None ∷ os) = let more = length-values os in omega arith
length-values (Some x ∷ os) = let more = length-values os in omega arith

value_in : (P : ℕ → Type 0) (os : List (Option ℕ)) → ((k x : ℕ) → k < length os → get_or os k None ≡ Some x → P x) → (i : ℕ) → i < length (filter_map (λ o. o) os) → P (get_or (filter_map (λ o. o) os) i 0)
value_in P [] each i h = absurd (omega arith)
value_in P (None ∷ os) each i h = value_in P os (λ k x l e. each (suc k) x (omega arith) e) i h
value_in P (Some y ∷ os) each zero h = each 0 y (omega arith) refl
value_in P (Some y ∷ os) each (suc i) h = value_in P os (λ k x l e. each (suc k) x (omega arith) e) i (omega arith)

pub all_values : (P : ℕ → Type 0) (os : List (Option ℕ)) → ((k x : ℕ) → k < length os → get_or os k None ≡ Some x → P x) → All P (filter_map (λ o. o) os)
all_values P os each = All-from_get_or P (filter_map (λ o. o) os) 0 (value_in P os each)

-- as many ones as values
pub ones_of_values : (os : List (Option ℕ)) → count_by (same true) (map is_some os) ≡ length (filter_map (λ o. o) os)
ones_of_values [] = refl
ones_of_values (None ∷ os) = let more = ones_of_values os in omega (arith, count_no (same true) false (map is_some os) refl)
ones_of_values (Some x ∷ os) = let more = ones_of_values os in omega (arith, count_yes (same true) true (map is_some os) refl)

-- the value at a place stands behind those of the places before
pub value_at : (os : List (Option ℕ)) (k x : ℕ) → k < length os → get_or os k None ≡ Some x → get_or (filter_map (λ o. o) os) (count_by (same true) (take k (map is_some os))) 0 ≡ x
value_at [] k x h e = absurd (omega arith)
value_at (None ∷ os) zero x h e = cc
value_at (Some y ∷ os) zero x h e = cc
value_at (None ∷ os) (suc k) x h e =
    let c = count_no (same true) false (take k (map is_some os)) refl in
    ap (λ n. get_or (filter_map (λ o. o) os) n 0) c ∙ value_at os k x (omega arith) e
value_at (Some y ∷ os) (suc k) x h e =
    let c : count_by (same true) (true ∷ take k (map is_some os)) ≡ suc (count_by (same true) (take k (map is_some os))) = (let f = count_yes (same true) true (take k (map is_some os)) refl in omega arith) in
    ap (λ n. get_or (y ∷ filter_map (λ o. o) os) n 0) c ∙ value_at os k x (omega arith) e

-- the least of some numbers is at most the first
pub least_below : (a : ℕ) (xs : List ℕ) → fold min a xs ≤ a
least_below a [] = omega arith
least_below a (x ∷ xs) = let more = least_below (min a x) xs in omega arith

value_is : (b : Bool) (v x : ℕ) → cond b (Some v) None ≡ Some x → v ≡ x
value_is true v x e = cc
value_is false v x e = cc

module _ (places : List ℕ) (are : IsPlacePermutation places) (s : ℕ) (some : 1 ≤ s) where
  pub length-marks : length (marks_of places s) ≡ length places
  unfolding tabulate
  length-marks = length-map-range_with_len (mark_of places s) 0 (length places)

  pub mark_is : (k : ℕ) → k < length places → get_or (marks_of places s) k None ≡ mark_of places s k
  unfolding tabulate
  mark_is k h = get_or-map-range_with_len (mark_of places s) 0 (length places) k k None h (omega arith)

  -- a pointer is a number
  pointer_within : (k x : ℕ) → k < length places → mark_of places s k ≡ Some x → x < length places
  unfolding mark_of mark_at
  pointer_within k x h e =
      let first = least_member places k in
      let members = cycle places first in
      let first_in : first < length places = omega (arith, least_below k (cycle places k)) in
      let m = members_of places are first first_in in
      let i = position_or_len (λ x. x == k) members in
      let i_most : i ≤ length members = prefix_len-le-length _ members in
      let at = cond (i == 0) ((length members - 1) / s * s) (i - s) in
      let v = value_is (nat_lt s (length members) && (i % s == 0)) (get_or members at 0) x e in
      let l : at < length members = elim (cases_Bool (i == 0)) [
        | inl z ↦ rw z (let d = div-mul-le_self (length members - 1) s in let n = m.some in omega arith)
        | inr nz ↦ rw nz (let n = m.some in omega arith)
      ] in
      subst (λ z. z < length places) v (m.within at l)

  pub pointers_within : All (λ x. x < 2 ^ place_width (length places)) (back_pointers places s)
  pointers_within = all_values (λ x. x < 2 ^ place_width (length places)) (marks_of places s) (λ k x h e.
      let l : k < length places = omega (arith, length-marks) in
      place_fits (length places) x (pointer_within k x l (sym (mark_is k l) ∙ e)))

  pub few_pointers : length (back_pointers places s) ≤ length places
  few_pointers = omega (arith, length-values (marks_of places s), length-marks)

  pub length-marked : length (marked places s) ≡ length places
  length-marked = length-map (marks_of places s) is_some ∙ length-marks
