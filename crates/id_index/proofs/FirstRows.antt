-- The first row of an id, counted from any row on.
use Rattle.std.proofs.Common.{◌≡◌, ℕ, zero, suc, ◌+◌, ◌<◌, inl, inr, true, false, cond, not, eqb, ◌==◌, List, [], ◌∷◌, length, get_or, refl, sym, ap, ◌∙◌, subst, arith, eq-eqb, Option, Some, None}
use Rattle.std.specs.Prelude.{slice_get, is_some, option_map, nat_lt}
use Rattle.std.specs.List.{position_or_len}
use Rattle.std.proofs.lemmas.Bool.{eqb-true, and_parts, cases_Bool, cases_lt, both_ways, not-true, lt-ltb, le-ltb}
use Rattle.std.proofs.lemmas.Bool.Decides.{nat_tests}
use Rattle.std.proofs.lemmas.List.Quantifiers.{position-Some}
use Rattle.std.proofs.lemmas.Map.Keys.{any_passes_from_place}
use Rattle.std.proofs.lemmas.Option.{slice_get-get_or, same_Some}
use Rattle.plane_model.specs.Sets.{has, is_distinct}
use Rattle.id_index.specs.Rows.{first_row}

abbrev pub row_from : ℕ → List ℕ → ℕ → Option ℕ
row_from k [] id = None
row_from k (x ∷ xs) id = cond (x == id) (Some k) (row_from (k + 1) xs id)

row_from-position : (k : ℕ) (ids : List ℕ) (id : ℕ) → row_from k ids id ≡ option_map (λ j. k + j) (first_row ids id)
row_from-position k [] id = refl
row_from-position k (x ∷ xs) id =
    let m = position_or_len (λ y. y == id) xs in
    let n = length xs in
    let more = row_from-position (k + 1) xs id in
    elim (cases_Bool (x == id)) [
      | inl e ↦ let first : nat_lt 0 (suc n) ≡ true = lt-ltb 0 (suc n) (omega arith) in rw (e, first) (ap Some (let own : k ≡ k + 0 = omega arith in own))
      | inr e ↦ elim (cases_lt m n) [
        | inl l ↦
            let here : nat_lt m n ≡ true = lt-ltb m n l in
            let next : nat_lt (1 + m) (suc n) ≡ true = lt-ltb (1 + m) (suc n) (omega arith) in
            let found = rw here at more in
            rw (e, next) (found ∙ ap Some (let on : k + 1 + m ≡ k + (1 + m) = omega arith in on))
        | inr l ↦
            let here : nat_lt m n ≡ false = le-ltb m n l in
            let next : nat_lt (1 + m) (suc n) ≡ false = le-ltb (1 + m) (suc n) (omega arith) in
            let found = rw here at more in
            rw (e, next) found
      ]
    ]

from_0 : (o : Option ℕ) → option_map (λ j. 0 + j) o ≡ o
from_0 None = refl
from_0 (Some j) = ap Some (let own : 0 + j ≡ j = omega arith in own)

pub first_row-from : (ids : List ℕ) (id : ℕ) → first_row ids id ≡ row_from 0 ids id
first_row-from ids id = sym (row_from-position 0 ids id ∙ from_0 (first_row ids id))

flips : (x y : ℕ) → eqb x y ≡ eqb y x
flips x y = grind (arith, nat_tests)

-- an id has a row exactly where it is among the ids
pub row_from-known : (k : ℕ) (ids : List ℕ) (id : ℕ) → is_some (row_from k ids id) ≡ has ids id
row_from-known k [] id = refl
row_from-known k (x ∷ xs) id = elim (cases_Bool (x == id)) [
  | inl e ↦ let e' : (id == x) ≡ true = flips id x ∙ e in rw (e, e') refl
  | inr e ↦ let e' : (id == x) ≡ false = flips id x ∙ e in rw (e, e') (row_from-known (k + 1) xs id)
]

pub first_row-known : (ids : List ℕ) (id : ℕ) → is_some (first_row ids id) ≡ has ids id
first_row-known ids id = ap is_some (first_row-from ids id) ∙ row_from-known 0 ids id

pub first_row-here : (ids : List ℕ) (id row : ℕ) → first_row ids id ≡ Some row → slice_get ids row ≡ Some id
first_row-here ids id row e =
    let at = position-Some (λ x. x == id) ids row zero e in
    slice_get-get_or ids row zero at.0 ∙ ap Some (eqb-true (get_or ids row zero) id at.1)

pub first_row-first : (ids : List ℕ) (id row : ℕ) → first_row ids id ≡ Some row → (k : ℕ) → k < row → (get_or ids k 0 == id) ≡ false
first_row-first ids id row e = (position-Some (λ x. x == id) ids row zero e).2

-- of distinct ids each has the row in which it stands
row_from-at : (k : ℕ) (ids : List ℕ) (id row : ℕ) → is_distinct ids ≡ true → slice_get ids row ≡ Some id → row_from k ids id ≡ Some (k + row)
row_from-at k [] id row d h = cc
row_from-at k (x ∷ xs) id zero d h = rw (eq-eqb x id (same_Some x id h)) (ap Some (let own : k ≡ k + 0 = omega arith in own))
row_from-at k (x ∷ xs) id (suc row) d h =
    let parts = and_parts (not (has xs x)) (is_distinct xs) d in
    let behind : has xs id ≡ true = any_passes_from_place (λ y. id == y) xs row id h (eq-eqb id id refl) in
    elim (cases_Bool (x == id)) [
      | inl e ↦ absurd (both_ways (has xs x) (not-true _ parts.0) (subst (λ y. has xs y ≡ true) (sym (eqb-true x id e)) behind))
      | inr e ↦ rw e (row_from-at (k + 1) xs id row parts.1 h ∙ ap Some (let on : k + 1 + row ≡ k + suc row = omega arith in on))
    ]

pub first_row-at : (ids : List ℕ) (id row : ℕ) → is_distinct ids ≡ true → slice_get ids row ≡ Some id → first_row ids id ≡ Some row
first_row-at ids id row d h = first_row-from ids id ∙ row_from-at 0 ids id row d h ∙ ap Some (let own : 0 + row ≡ row = omega arith in own)
