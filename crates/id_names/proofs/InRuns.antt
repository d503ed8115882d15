-- Ids in runs that lie far apart.
use Rattle.std.specs.List.{range_with_len}
use Rattle.std.proofs.Common.{◌≡◌, ℕ, ◌+◌, ◌*◌, ◌/◌, ◌^◌, ◌<◌, ◌≤◌, List, map, length, get_or, sym, ◌∙◌, arith}
use Rattle.std.proofs.Math.Nat.{pow-le-pow_right}
use Rattle.std.proofs.lemmas.List.FromFn.{length-map-range_with_len, get_or-map-range_with_len}
use Rattle.bit_words.specs.Digits.{digits}
use Rattle.bit_words.proofs.DigitLaws.{digits-pow}
use Rattle.id_names.specs.Names.{AreDistinctIds}
use Rattle.id_names.specs.RisingNames.{bound_of}

abbrev pub id_of : ℕ → ℕ
id_of number = number + number / 100 * 1000 + 1

abbrev pub ids : List ℕ
ids = map id_of (range_with_len 0 400)

pub length-ids : length ids ≡ 400
length-ids = length-map-range_with_len id_of 0 400

id_at : (k : ℕ) → k < 400 → get_or ids k 0 ≡ id_of k
id_at k h = get_or-map-range_with_len id_of 0 400 k k 0 h (omega arith)

pub distinct_ids : AreDistinctIds (bound_of (length ids) 30) ids
distinct_ids = record {
  in_range = λ k h.
      let l : k < 400 = omega (arith, length-ids) in
      let two : 0 < 2 = omega arith in
      let wide : 30 ≤ digits (length ids) + 30 = omega arith in
      let p : 2 ^ 30 ≤ 2 ^ (digits (length ids) + 30) = pow-le-pow_right two wide in
      (omega (arith, id_at k l), omega (arith, id_at k l, p));
  distinct = λ j k h l e.
      let a : j < 400 = omega (arith, length-ids) in
      let b : k < 400 = omega (arith, length-ids) in
      let same : id_of j ≡ id_of k = sym (id_at j a) ∙ e ∙ id_at k b in
      omega arith;
}

pub narrow : digits (length ids) + 30 ≤ 63
narrow = let d = digits-pow (length ids) 9 (omega (arith, length-ids)) in omega arith
