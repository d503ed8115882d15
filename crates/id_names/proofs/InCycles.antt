-- Ids whose places go round in cycles of one length.
use Rattle.std.specs.Prelude.{nat_le}
use Rattle.std.specs.List.{range_with_len}
use Rattle.std.proofs.Common.{◌≡◌, ℕ, ◌+◌, ◌*◌, ◌/◌, ◌%◌, ◌^◌, ◌<◌, ◌≤◌, inl, inr, true, List, map, length, get_or, ap, sym, ◌∙◌, arith}
use Rattle.std.proofs.Math.Nat.{mul-le-mul_right, pow-le-pow_right}
use Rattle.std.proofs.lemmas.Bool.{cases_lt, leb-true}
use Rattle.std.proofs.lemmas.List.FromFn.{length-map-range_with_len, get_or-map-range_with_len}
use Rattle.std.proofs.lemmas.Nat.{div-add-mod', div_below, mod_below, mod-mul-add, same_from_place}
use Rattle.bit_words.specs.Digits.{digits}
use Rattle.bit_words.proofs.DigitLaws.{digits-pow}
use Rattle.id_names.specs.Names.{AreDistinctIds}
use Rattle.id_names.proofs.DigitBounds.{below_power}
use Rattle.id_names.specs.RisingNames.{bound_of}

abbrev pub id_of : ℕ → ℕ → ℕ
id_of len number = number / len * len + (number % len + 1) % len + 1

abbrev pub ids_of : ℕ → ℕ → List ℕ
ids_of cycles len = map (id_of len) (range_with_len 0 (cycles * len))

-- the next number of a cycle
next_inside : (r len : ℕ) → r + 1 < len → (r + 1) % len ≡ r + 1
next_inside r len h = let z : 0 * len + (r + 1) ≡ r + 1 = omega arith in ap (λ x. x % len) (sym z) ∙ mod-mul-add 0 len (r + 1) h

next_round : (r len : ℕ) → 1 ≤ len → r + 1 ≡ len → (r + 1) % len ≡ 0
next_round r len some e = let z : 1 * len + 0 ≡ r + 1 = omega arith in ap (λ x. x % len) (sym z) ∙ mod-mul-add 1 len 0 some

next_one : (r s len : ℕ) → 1 ≤ len → r < len → s < len → (r + 1) % len ≡ (s + 1) % len → r ≡ s
next_one r s len some a b e = elim (cases_lt (r + 1) len) [
  | inl more ↦ elim (cases_lt (s + 1) len) [
    | inl also ↦ omega (arith, next_inside r len more, next_inside s len also)
    | inr over ↦ absurd (omega (arith, next_inside r len more, next_round s len some (omega arith)))
  ]
  | inr over ↦ elim (cases_lt (s + 1) len) [
    | inl also ↦ absurd (omega (arith, next_round r len some (omega arith), next_inside s len also))
    | inr both ↦ omega arith
  ]
]

module _ (cycles len : ℕ) (some : 1 ≤ len) (few : cycles * len ≤ 100000) where
  pub length-ids_of : length (ids_of cycles len) ≡ cycles * len
  length-ids_of = length-map-range_with_len (id_of len) 0 (cycles * len)

  id_at : (k : ℕ) → k < cycles * len → get_or (ids_of cycles len) k 0 ≡ id_of len k
  id_at k h = get_or-map-range_with_len (id_of len) 0 (cycles * len) k k 0 h (omega arith)

  id_most : (k : ℕ) → k < cycles * len → id_of len k ≤ cycles * len
  id_most k h =
      let q = div_below k len cycles some h in
      let one : k / len + 1 ≤ cycles = omega arith in
      let c : (k / len + 1) * len ≤ cycles * len = mul-le-mul_right len one in
      let b = mod_below (k % len + 1) len some in
      omega arith

  fit : (k : ℕ) → k < length (ids_of cycles len) → get_or (ids_of cycles len) k 0 < bound_of (length (ids_of cycles len)) 14
  fit k h =
      let l : k < cycles * len = omega (arith, length-ids_of) in
      let two : 0 < 2 = omega arith in
      let wide : digits (length (ids_of cycles len)) ≤ digits (length (ids_of cycles len)) + 14 = omega arith in
      let p : 2 ^ digits (length (ids_of cycles len)) ≤ 2 ^ (digits (length (ids_of cycles len)) + 14) = pow-le-pow_right two wide in
      omega (arith, id_at k l, id_most k l, below_power (length (ids_of cycles len)), length-ids_of)

  pub distinct_ids : AreDistinctIds (bound_of (length (ids_of cycles len)) 14) (ids_of cycles len)
  distinct_ids = record {
    in_range = λ k h. (let l : k < cycles * len = omega (arith, length-ids_of) in let e = id_at k l in let m = id_most k l in (omega arith, fit k h));
    distinct = λ j k h q e.
        let a : j < cycles * len = omega (arith, length-ids_of) in
        let b : k < cycles * len = omega (arith, length-ids_of) in
        let same : id_of len j ≡ id_of len k = sym (id_at j a) ∙ e ∙ id_at k b in
        let c = mod_below (j % len + 1) len some in
        let d = mod_below (k % len + 1) len some in
        let f : j / len * len + (j % len + 1) % len ≡ k / len * len + (k % len + 1) % len = omega arith in
        let parts = same_from_place (j / len) ((j % len + 1) % len) (k / len) ((k % len + 1) % len) len c d f in
        let r = next_one (j % len) (k % len) len some (mod_below j len some) (mod_below k len some) parts.1 in
        let g = ap (λ x. x * len) parts.0 in
        omega (arith, div-add-mod' j len, div-add-mod' k len);
  }

  pub narrow : digits (length (ids_of cycles len)) + 14 ≤ 63
  narrow = let d = digits-pow (length (ids_of cycles len)) 17 (omega (arith, length-ids_of)) in omega arith

pub narrow_from_test : (low : ℕ) (ids : List ℕ) → nat_le (digits (length ids) + low) 63 ≡ true → digits (length ids) + low ≤ 63
narrow_from_test low ids t = leb-true (digits (length ids) + low) 63 t
