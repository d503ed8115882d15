-- What a sort by place and then by key gives.
use Rattle.std.specs.Prelude.{map, nat_eq, ◌==◌}
use Rattle.std.specs.List.{IsDistinct}
use Rattle.std.specs.List.Sorted.{IsPermutation}
use Rattle.std.specs.Ordering.{is_lt, nat_cmp, ordering_then}
use Rattle.std.proofs.Common.{◌≡◌, ℕ, ◌+◌, ◌<◌, ◌≤◌, ◌⊎◌, inl, inr, false, List, length, get_or, sym, arith}
use Rattle.std.proofs.lemmas.Bool.{cases_lt, eq-eqb, lt-ltb, le-ltb, eqb-false}
use Rattle.std.proofs.lemmas.Cmp.{nat_eq_equiv}
use Rattle.std.proofs.lemmas.Map.Keys.{apart_from_distinct, IsDistinct-IsPermutation}
use Rattle.std.proofs.lemmas.List.{get_or-map, length-map}
use Rattle.std.proofs.lemmas.List.Sorted.{IsPermutation-map}
use Rattle.map_build.specs.declared.standing.Standing.{Standing}
use Rattle.map_build.specs.Standing.{AreInOrder, place_in, key_in}

less_key : (k l n o : ℕ) → is_lt (ordering_then (nat_cmp l k) (nat_cmp o n)) ≡ false → (k == l) ≡ false → k < l
less_key k l n o h apart = elim (cases_lt l k) [
  | inl a ↦ let e = rw (lt-ltb l k a) at h in cc
  | inr b ↦ let other = eqb-false k l apart in elim (cases_lt k l) [ inl c ↦ c | inr d ↦ let same : k ≡ l = omega (arith, b, d) in absurd (other same) ]
]

pub sorted_step : (p q k l n o : ℕ) → is_lt (ordering_then (nat_cmp q p) (ordering_then (nat_cmp l k) (nat_cmp o n))) ≡ false → (k == l) ≡ false → (p < q) ⊎ ((p ≡ q) × (k < l))
sorted_step p q k l n o h apart = elim (cases_lt p q) [
  | inl a ↦ inl a
  | inr b ↦ elim (cases_lt q p) [
    | inl c ↦ let e = rw (lt-ltb q p c) at h in cc
    | inr d ↦
        let same : q ≡ p = omega (arith, b, d) in
        let rest : is_lt (ordering_then (nat_cmp l k) (nat_cmp o n)) ≡ false = rw (le-ltb q p d, eq-eqb q p same) at h in
        inr (sym same, less_key k l n o rest apart)
  ]
]

nothing : Standing
nothing = record { place = 0; key = 0; component = 0 }

pub sorted_order : (xs ys : List Standing) → IsDistinct nat_eq (map (λ s. s.key) xs) → IsPermutation xs ys
    → ((k : ℕ) (d : Standing) → 0 ≤ k → k + 1 < length ys → is_lt (ordering_then (nat_cmp (get_or ys (k + 1) d).place (get_or ys k d).place) (ordering_then (nat_cmp (get_or ys (k + 1) d).key (get_or ys k d).key) (nat_cmp (get_or ys (k + 1) d).component (get_or ys k d).component))) ≡ false)
    → AreInOrder ys
sorted_order xs ys distinct moved sorted i l =
    let apart : IsDistinct nat_eq (map (λ s. s.key) ys) = IsDistinct-IsPermutation nat_eq nat_eq_equiv.symm (map (λ s. s.key) xs) (map (λ s. s.key) ys) (IsPermutation-map (λ s. s.key) xs ys moved) distinct in
    let many = length-map ys (λ (s : Standing). s.key) in
    let differ : (key_in ys i == key_in ys (i + 1)) ≡ false = apart_from_distinct nat_eq (map (λ s. s.key) ys) i (i + 1) 0 apart (omega arith) (omega (arith, l, many)) in
    let at = λ (f : Standing → ℕ) (j : ℕ) (k : j < length ys). get_or-map f ys j nothing 0 k in
    let here : i < length ys = omega (arith, l) in
    let step = sorted i nothing (omega arith) l in
    sorted_step (place_in ys i) (place_in ys (i + 1)) (key_in ys i) (key_in ys (i + 1)) (get_or ys i nothing).component (get_or ys (i + 1) nothing).component
    (rw (at (λ s. s.place) i here, at (λ s. s.place) (i + 1) l, at (λ s. s.key) i here, at (λ s. s.key) (i + 1) l) step) differ
