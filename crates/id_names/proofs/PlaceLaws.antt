-- Where an id stands in a rising list, by its high and low part.
use Rattle.std.proofs.Common.{◌≡◌, ℕ, ◌+◌, ◌*◌, ◌/◌, ◌%◌, ◌^◌, ◌<◌, ◌≤◌, List, length, get_or, ap, sym, ◌∙◌, subst, arith, inl, inr, None}
use Rattle.std.proofs.lemmas.Bool.{cases_lt}
use Rattle.std.proofs.lemmas.Nat.{pow_pos, mod_below, div-add-mod', one_shl}
use Rattle.std.proofs.Math.Nat.{mul-le-mul_left, mul-le-mul_right, pow-le-pow_right, div-mul-le_self}
use Rattle.bit_words.specs.PackedView.{fields_of, width_of}
use Rattle.bit_words.specs.WordView.{words_of}
use Rattle.rank_select.specs.RankView.{counted}
use Rattle.id_names.specs.Rising.{high_part}
use Rattle.id_names.specs.RisingNames.{RisingNames, count, id_at}
use Rattle.id_names.specs.Faults.{name_fault}
use Rattle.id_names.specs.PartViews.{id_in}
use Rattle.id_names.specs.declared.rising_ids.RisingIds.{RisingIds}
use Rattle.id_names.proofs.Ids.{field_small, id_parts}
use Rattle.id_names.proofs.NameLaws.{rises}

below_by_high : (a b m : ℕ) → 0 < m → a / m < b / m → a < b
below_by_high a b m some h =
    let l : a / m + 1 ≤ b / m = omega arith in
    let more : (a / m + 1) * m ≤ (b / m) * m = mul-le-mul_right m l in
    omega (arith, more, div-add-mod' a m, div-add-mod' b m, mod_below a m some)

below_by_low : (a b m : ℕ) → a / m ≡ b / m → a % m < b % m → a < b
below_by_low a b m e h =
    let same : (a / m) * m ≡ (b / m) * m = ap (λ q. q * m) e in
    omega (arith, same, div-add-mod' a m, div-add-mod' b m)

same_by_parts : (a b m : ℕ) → a / m ≡ b / m → a % m ≡ b % m → a ≡ b
same_by_parts a b m e h =
    let same : (a / m) * m ≡ (b / m) * m = ap (λ q. q * m) e in
    omega (arith, same, div-add-mod' a m, div-add-mod' b m)

-- a high part is not the greatest number of 64 bits
pub high_small : (id low : ℕ) → 1 ≤ low → id < 2 ^ 64 → id / 2 ^ low < 18446744073709551615
high_small id low some h =
    let two : 0 < 2 = omega arith in
    let power : 2 ^ 1 ≤ 2 ^ low = pow-le-pow_right two some in
    let pair : 2 ≤ 2 ^ low = omega (arith, power) in
    let twice : (id / 2 ^ low) * 2 ≤ (id / 2 ^ low) * 2 ^ low = mul-le-mul_left (id / 2 ^ low) pair in
    omega (arith, twice, div-mul-le_self id (2 ^ low))

-- the low part that is looked for
pub wanted_is : (id low : ℕ) → low < 64 → id % (1 * 2 ^ low % 2 ^ 64) ≡ id % 2 ^ low
wanted_is id low h = ap (λ m. id % m) (one_shl low 64 h)

module _ (v : RisingIds) (id low : ℕ) (width : low ≡ width_of v.lows) (k : ℕ) (within : k < length (fields_of v.lows)) where
  both : (id_in v k / 2 ^ low ≡ high_part (counted v.high) k) × (id_in v k % 2 ^ low ≡ get_or (fields_of v.lows) k 0)
  both = subst (λ low. (id_in v k / 2 ^ low ≡ high_part (counted v.high) k) × (id_in v k % 2 ^ low ≡ get_or (fields_of v.lows) k 0)) (sym width)
      (id_parts (counted v.high) (fields_of v.lows) (width_of v.lows) k (field_small (words_of v.lows.words) v.lows.count v.lows.width k within))

  pub below_bucket : high_part (counted v.high) k < id / 2 ^ low → id_in v k < id
  below_bucket h = below_by_high (id_in v k) id (2 ^ low) (pow_pos low) (omega (arith, h, both.0))

  pub above_bucket : id / 2 ^ low < high_part (counted v.high) k → id < id_in v k
  above_bucket h = below_by_high id (id_in v k) (2 ^ low) (pow_pos low) (omega (arith, h, both.0))

  pub before_low : high_part (counted v.high) k ≡ id / 2 ^ low → get_or (fields_of v.lows) k 0 < id % 2 ^ low → id_in v k < id
  before_low e h = below_by_low (id_in v k) id (2 ^ low) (both.0 ∙ e) (omega (arith, h, both.1))

  pub after_low : high_part (counted v.high) k ≡ id / 2 ^ low → id % 2 ^ low < get_or (fields_of v.lows) k 0 → id < id_in v k
  after_low e h = below_by_low id (id_in v k) (2 ^ low) (sym (both.0 ∙ e)) (omega (arith, h, both.1))

  pub at_low : high_part (counted v.high) k ≡ id / 2 ^ low → get_or (fields_of v.lows) k 0 ≡ id % 2 ^ low → id_in v k ≡ id
  at_low e h = same_by_parts (id_in v k) id (2 ^ low) (both.0 ∙ e) (both.1 ∙ h)

module _ (p : RisingNames) (high_counts mark_counts : List ℕ) (right : name_fault p high_counts mark_counts ≡ None) where
  pub not_earlier : (id middle : ℕ) → id_at p middle < id → middle < count p → (k : ℕ) → k < middle + 1 → id_at p k < id
  not_earlier id middle l h k a = elim (cases_lt k middle) [
    | inl m ↦ omega (arith, rises p high_counts mark_counts right k middle m h)
    | inr m ↦ let e : k ≡ middle = omega arith in rw e l
  ]

  pub not_later : (id middle : ℕ) → id < id_at p middle → (k : ℕ) → middle ≤ k → k < count p → id < id_at p k
  not_later id middle l k a h = elim (cases_lt middle k) [
    | inl m ↦ omega (arith, rises p high_counts mark_counts right middle k m h)
    | inr m ↦ let e : k ≡ middle = omega arith in rw e l
  ]
