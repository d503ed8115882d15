-- Rows sorted by a key: their keys are the map's, and each row is found by its key.
use Rattle.std.specs.Prelude.{nat_lt, find, slice_get, slice_index, option_map}
use Rattle.std.proofs.Common.{◌≡◌, ℕ, zero, suc, ◌+◌, ◌<◌, ◌≤◌, Bool, true, false, ◌==◌, List, [], ◌∷◌, map, length, get_or, refl, ap, sym, ◌∙◌, subst, arith, Option, Some, None}
use Rattle.std.specs.List.{Contains, list_all}
use Rattle.std.proofs.lemmas.Bool.{and_parts, and_from, ltb-true, false_from_ne_true}
use Rattle.std.specs.List.Sorted.{IsPermutation, IsNonDecreasing, IsNonDecreasingBy}
use Rattle.std.proofs.lemmas.Option.{slice_get-get_or}
use Rattle.std.proofs.lemmas.List.{get_or-map, length-map}
use Rattle.std.proofs.lemmas.List.Sorted.{IsPermutation-map, IsPermutation-sym, Contains-permutation, length_permutation}
use Rattle.plane_model.specs.Sets.{has, is_distinct, rising, map_by}
use Rattle.plane_model.specs.Orders.{is_strictly_rising}
use Rattle.plane_model.proofs.Sorting.{rising_from_sort, rising_strictly, rising-permutation, rising_rises, sorted_from_rises, among}
use Rattle.plane_model.proofs.Lookups.{find_key}

strictly_apart : (xs : List ℕ) → is_strictly_rising xs ≡ true → is_distinct xs ≡ true
strictly_apart [] h = refl
strictly_apart (x ∷ xs) h =
    let parts = and_parts (list_all (nat_lt x) xs) (is_strictly_rising xs) h in
    let none : has xs x ≡ false = false_from_ne_true _ (λ there. let l = ltb-true x x (among (nat_lt x) xs x parts.0 there) in omega arith) in
    and_from _ _ (rw none refl) (strictly_apart xs parts.1)

-- distinct numbers are distinct in rising order
pub rising_apart : (xs : List ℕ) → is_distinct xs ≡ true → is_distinct (rising xs) ≡ true
rising_apart xs h = strictly_apart (rising xs) (rising_strictly xs h)

pub get_some : {R : Type 0} (xs : List R) (k : ℕ) (x : R) → slice_get xs k ≡ Some x → (k < length xs) × (get_or xs k x ≡ x)
get_some [] k x h = cc
get_some (y ∷ ys) zero x h = (omega arith, cc)
get_some (y ∷ ys) (suc k) x h = let more = get_some ys k x h in (omega (arith, more.0), more.1)

module _ {R : Type 0} (key : R → ℕ) (rows sorted : List R) (same : IsPermutation rows sorted) (up : IsNonDecreasingBy key sorted) where
  pub sorted_long : length sorted ≡ length rows
  sorted_long = length_permutation rows sorted same

  pub keys_rise : R → IsNonDecreasing (map key sorted)
  keys_rise d i j e le lt =
      let l = length-map sorted key in
      let a = get_or-map key sorted i d e (omega (arith, l)) in
      let b = get_or-map key sorted j d e (omega (arith, l)) in
      let c = up i j d le (omega (arith, l)) in
      omega (arith, a, b, c)

  pub keys_are : R → map key sorted ≡ rising (map key rows)
  keys_are d = rising_from_sort (map key rows) (map key sorted) (IsPermutation-map key rows sorted same) (keys_rise d)

  pub in_rows : (k : ℕ) (row : R) → slice_get sorted k ≡ Some row → (j : ℕ) × (slice_get rows j ≡ Some row)
  in_rows k row h =
      let g = get_some sorted k row h in
      let c = Contains-permutation sorted rows row (IsPermutation-sym rows sorted same) (k, g.0, g.1) in
      (c.0, slice_get-get_or rows c.0 row c.1 ∙ ap Some c.2)

  pub row_found : is_distinct (map key rows) ≡ true → (k : ℕ) (row : R) → slice_get sorted k ≡ Some row → find (λ r. key r == key row) rows ≡ Some row
  row_found apart k row h = let j = in_rows k row h in find_key key rows j.0 row apart j.1

  -- the map has the row's value at its key
  pub value_found : {X : Type 0} (value : R → X) → is_distinct (map key rows) ≡ true → (k : ℕ) (row : R) → slice_get sorted k ≡ Some row → (map_by key value rows).at (key row) ≡ Some (value row)
  value_found value apart k row h = ap (option_map value) (row_found apart k row h)

-- numbers in rising order
pub rising_long : (xs : List ℕ) → length (rising xs) ≡ length xs
rising_long xs = length_permutation xs (rising xs) (rising-permutation xs)

pub rising_sorted : (xs : List ℕ) → IsNonDecreasing (rising xs)
rising_sorted xs = sorted_from_rises (rising xs) (rising_rises xs)
