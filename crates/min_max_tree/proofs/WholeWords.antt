-- scans of a whole word, whose ones are counted
use Rattle.std.specs.Prelude.{pos, ◌-ℤ◌}
use Rattle.std.proofs.Common.{◌≡◌, ◌≢◌, ℕ, ◌+◌, ◌-◌, ◌*◌, ◌/◌, ◌%◌, ◌<◌, ◌≤◌, Bool, true, false, List, length, get_or, refl, arith, subst, min, add-zero}
use Rattle.bit_words.specs.Bits.{rank, excess, word_bits, is_set}
use Rattle.bit_words.proofs.Ranks.{rank-zero, rank-le}
use Rattle.min_max_tree.specs.Search.{Reaches, Rests}
use Rattle.min_max_tree.specs.SearchBack.{Leaves, Remains}
use Rattle.min_max_tree.proofs.Falls.{found_in_list, rests_in_list, big_enough}
use Rattle.min_max_tree.proofs.Backs.{left_in_list, remains_in_list, enough_back}
use Rattle.min_max_tree.proofs.Fronts.{too_few_zeros, too_few_ones}

module _ (bits : List Bool) (from chunk need ones : ℕ) (start : from % 64 ≡ 0) (within : from + 64 ≤ length bits) (some : 1 ≤ need) (agree : (k : ℕ) → 64 * (from / 64) + k < length bits → k < 64 → is_set chunk k ≡ get_or bits (64 * (from / 64) + k) false) (count : ones ≡ rank true (word_bits chunk) 64) where
  place : 64 * (from / 64) ≡ from
  place = omega arith

  agrees : (k : ℕ) → k < 64 → is_set chunk k ≡ get_or bits (64 * (from / 64) + k) false
  agrees k h = agree k (omega arith) h

  -- ---- forward, for a drop of `need`
  pub whole_found : need ≤ 64 → (p : ℕ) → 0 < p → p ≤ 64 → excess (word_bits chunk) p ≡ excess (word_bits chunk) 0 -ℤ pos need → ((q : ℕ) → 0 < q → q < p → excess (word_bits chunk) q ≢ excess (word_bits chunk) 0 -ℤ pos need) → Reaches bits (excess bits from -ℤ pos need) from (from + 64) (from + p)
  whole_found small p h l e before =
      let r = found_in_list bits (from / 64) chunk agrees 0 64 need need (omega arith) (omega arith) (omega arith) some (omega arith) p h l e before in
      let F : ℕ → Type 0 = λ x. Reaches bits (excess bits x -ℤ pos need) x (x + 64) (x + p) in
      subst F place (rw add-zero at r)

  whole_none : ((q : ℕ) → 0 < q → q ≤ 64 → excess (word_bits chunk) q ≢ excess (word_bits chunk) 0 -ℤ pos (min need 65)) → (64 ≤ need + 2 * ones) × Rests bits (excess bits from -ℤ pos need) from (from + 64) need (need + 2 * ones - 64)
  whole_none never =
      let z = rank-zero true (word_bits chunk) in
      let big = big_enough bits (from / 64) chunk agrees 0 64 need (min need 65) (omega arith) (omega arith) (omega arith) some refl never (omega arith) in
      let r = rests_in_list bits (from / 64) chunk agrees 0 64 need (min need 65) (omega arith) (omega arith) (omega arith) some refl never (omega arith) (need + 2 * ones - 64) (omega (arith, z, count)) in
      let F : ℕ → Type 0 = λ x. Rests bits (excess bits x -ℤ pos need) x (x + 64) need (need + 2 * ones - 64) in
      (omega (arith, big, z, count), subst F place (rw add-zero at r))

  pub whole_rests : need ≤ 64 → ((q : ℕ) → 0 < q → q ≤ 64 → excess (word_bits chunk) q ≢ excess (word_bits chunk) 0 -ℤ pos need) → (64 ≤ need + 2 * ones) × Rests bits (excess bits from -ℤ pos need) from (from + 64) need (need + 2 * ones - 64)
  whole_rests small never =
      let e : need ≡ min need 65 = omega arith in
      whole_none (subst (λ d. (q : ℕ) → 0 < q → q ≤ 64 → excess (word_bits chunk) q ≢ excess (word_bits chunk) 0 -ℤ pos d) e never)

  -- with too few zeros in the word
  pub whole_passed : 64 < need + ones → Rests bits (excess bits from -ℤ pos need) from (from + 64) need (need + 2 * ones - 64)
  whole_passed few =
      let z = rank-zero true (word_bits chunk) in
      (whole_none (too_few_zeros chunk 0 64 ones (min need 65) (omega arith) (omega (arith, z, count)) (omega arith))).1

  -- ---- back
  pub whole_left : need ≤ 64 → (p : ℕ) → 0 ≤ p → p < 64 → excess (word_bits chunk) p ≡ excess (word_bits chunk) 64 -ℤ pos need → ((q : ℕ) → p < q → q < 64 → excess (word_bits chunk) q ≢ excess (word_bits chunk) 64 -ℤ pos need) → Leaves bits (excess bits (from + 64) -ℤ pos need) from (from + 64) (from + p)
  whole_left small p h l e after =
      let r = left_in_list bits (from / 64) chunk agrees 0 64 need need (omega arith) (omega arith) (omega arith) some (omega arith) p h l e after in
      let F : ℕ → Type 0 = λ x. Leaves bits (excess bits (x + 64) -ℤ pos need) x (x + 64) (x + p) in
      subst F place (rw add-zero at r)

  whole_never : ((q : ℕ) → 0 ≤ q → q < 64 → excess (word_bits chunk) q ≢ excess (word_bits chunk) 64 -ℤ pos (min need 65)) → (2 * ones ≤ need + 64) × Remains bits (excess bits (from + 64) -ℤ pos need) from (from + 64) need (need + 64 - 2 * ones)
  whole_never never =
      let z = rank-zero true (word_bits chunk) in
      let big = enough_back bits (from / 64) chunk agrees 0 64 need (min need 65) (omega arith) (omega arith) (omega arith) some refl never (omega arith) in
      let r = remains_in_list bits (from / 64) chunk agrees 0 64 need (min need 65) (omega arith) (omega arith) (omega arith) some refl never (omega arith) (need + 64 - 2 * ones) (omega (arith, z, count)) in
      let F : ℕ → Type 0 = λ x. Remains bits (excess bits (x + 64) -ℤ pos need) x (x + 64) need (need + 64 - 2 * ones) in
      (omega (arith, big, z, count), subst F place (rw add-zero at r))

  pub whole_remains : need ≤ 64 → ((q : ℕ) → 0 ≤ q → q < 64 → excess (word_bits chunk) q ≢ excess (word_bits chunk) 64 -ℤ pos need) → (2 * ones ≤ need + 64) × Remains bits (excess bits (from + 64) -ℤ pos need) from (from + 64) need (need + 64 - 2 * ones)
  whole_remains small never =
      let e : need ≡ min need 65 = omega arith in
      whole_never (subst (λ d. (q : ℕ) → 0 ≤ q → q < 64 → excess (word_bits chunk) q ≢ excess (word_bits chunk) 64 -ℤ pos d) e never)

  -- with too few ones in the word
  pub whole_passed_back : ones < need → (2 * ones ≤ need + 64) × Remains bits (excess bits (from + 64) -ℤ pos need) from (from + 64) need (need + 64 - 2 * ones)
  whole_passed_back few =
      let z = rank-zero true (word_bits chunk) in
      let m = rank-le true (word_bits chunk) 64 in
      whole_never (too_few_ones chunk 0 64 ones (min need 65) (omega arith) (omega (arith, z, count)) (omega (arith, m, count)))
