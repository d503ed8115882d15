-- how a search for an excess goes on by bytes, and ends in one of them
use Rattle.std.specs.Prelude.{pos, ◌+ℤ◌, ◌-ℤ◌, ◌<ℤ◌}
use Rattle.std.proofs.Common.{◌≡◌, ◌≢◌, ℕ, ◌+◌, ◌-◌, ◌*◌, ◌<◌, ◌≤◌, true, refl, ap, sym, ◌∙◌, arith, ⊎_elim, Option, None, Some}
use Rattle.std.proofs.lemmas.Bool.{cases_lt}
use Rattle.std.proofs.lemmas.Bool.Decides.{Decides-int_eq}
use Rattle.std.proofs.lemmas.Int.{ints}
use Rattle.bit_words.specs.Bits.{is_set, word_bits, rank, excess, IsNext, IsLast}
use Rattle.bit_words.specs.Bytes.{place_or, first_fall, last_rise}
use Rattle.bit_words.proofs.BitLists.{length-word_bits}
use Rattle.bit_words.proofs.Finds.{next-find, last-below}
use Rattle.bit_words.proofs.ByteLaws.{excess-zero, excess-bounds, excess-rise, eight_ones, excess_from, excess_up_to, above_further, above_before}

-- the bits of a byte before place p have fallen by this number, and those from p on rise by it
abbrev pub Falls : ℕ → ℕ → ℕ → Type 0
Falls byte need p = excess (word_bits byte) p +ℤ pos need ≡ pos 0

abbrev pub Rises : ℕ → ℕ → ℕ → Type 0
Rises byte need p = excess (word_bits byte) p +ℤ pos need ≡ excess (word_bits byte) 8

module _ (byte need : ℕ) where
  first_fall-is : IsNext (Falls byte need) 0 8 (first_fall byte need)
  unfolding first_fall
  first_fall-is = next-find _ (Falls byte need) (λ p. Decides-int_eq _ _) 0 8 (first_fall byte need) refl

  last_rise-is : IsLast (Rises byte need) 0 8 (last_rise byte need)
  unfolding last_rise
  last_rise-is = last-below _ (Rises byte need) (λ p. Decides-int_eq _ _) 8

  -- what an entry tells
  next_or : (o : Option ℕ) → IsNext (Falls byte need) 0 8 o → (place_or 9 o ≤ 8 → IsNext (Falls byte need) 0 8 (Some (place_or 9 o))) × (8 < place_or 9 o → IsNext (Falls byte need) 0 8 None)
  next_or None n = (λ h. absurd (omega arith), λ h. n)
  next_or (Some p) n = (λ h. n, λ h. absurd (omega (arith, n.1)))

  last_or : (o : Option ℕ) → IsLast (Rises byte need) 0 8 o → (place_or 8 o < 8 → IsLast (Rises byte need) 0 8 (Some (place_or 8 o))) × (8 ≤ place_or 8 o → IsLast (Rises byte need) 0 8 None)
  last_or None n = (λ h. absurd (omega arith), λ h. n)
  last_or (Some p) n = (λ h. n, λ h. absurd (omega (arith, n.1)))

  pub fall_told : (place_or 9 (first_fall byte need) ≤ 8 → IsNext (Falls byte need) 0 8 (Some (place_or 9 (first_fall byte need)))) × (8 < place_or 9 (first_fall byte need) → IsNext (Falls byte need) 0 8 None)
  fall_told = next_or (first_fall byte need) first_fall-is

  pub rise_told : (place_or 8 (last_rise byte need) < 8 → IsLast (Rises byte need) 0 8 (Some (place_or 8 (last_rise byte need)))) × (8 ≤ place_or 8 (last_rise byte need) → IsLast (Rises byte need) 0 8 None)
  rise_told = last_or (last_rise byte need) last_rise-is

  -- no byte falls or rises by more than 8
  pub no_fall : 8 < need → IsNext (Falls byte need) 0 8 None
  no_fall h = λ p a b e. let x = excess-bounds (word_bits byte) p (rw length-word_bits (omega arith)) in absurd (omega (arith, ints, x, e))

  pub no_rise : 8 < need → IsLast (Rises byte need) 0 8 None
  no_rise h = λ p a b e. let x = excess-rise (word_bits byte) p 8 (omega arith) (rw length-word_bits (omega arith)) in absurd (omega (arith, ints, x, e))

  -- what a byte leaves is above none, where it has not fallen so far
  pub stays_some : 1 ≤ need → IsNext (Falls byte need) 0 8 None → 8 < need + 2 * rank true (word_bits byte) 8
  stays_some some none =
      let z = excess-zero (word_bits byte) in
      let a = above_further (word_bits byte) (pos 0 -ℤ pos need) 0 8 (rw length-word_bits (omega arith)) (omega (arith, ints, z, some)) (λ q l h e. none q l h (omega (arith, ints, e))) 8 (omega arith) in
      omega (arith, ints, a, eight_ones byte)

  -- the same, downwards
  pub stays_some_back : 1 ≤ need → IsLast (Rises byte need) 0 8 None → 2 * rank true (word_bits byte) 8 < need + 8
  stays_some_back some none =
      let z = excess-zero (word_bits byte) in
      let a : (excess (word_bits byte) 8 -ℤ pos need) <ℤ excess (word_bits byte) 0 = above_before (word_bits byte) (excess (word_bits byte) 8 -ℤ pos need) 8 8 (rw length-word_bits (omega arith)) (omega arith) (omega (arith, ints, some)) (λ q l h e. none q (omega arith) h (omega (arith, ints, e))) 8 (omega arith) in
      omega (arith, ints, a, z, eight_ones byte)

module _ (word from to drop at need byte : ℕ) (within : to ≤ 64) (low : from ≤ at) (before : at < to) (level : excess (word_bits word) at ≡ excess (word_bits word) from -ℤ pos drop +ℤ pos need) (passed : (q : ℕ) → from < q → q ≤ at → q ≤ to → excess (word_bits word) q ≢ excess (word_bits word) from -ℤ pos drop) (agrees : (i : ℕ) → i < 8 → at + i < 64 → is_set byte i ≡ is_set word (at + i)) where
  pub level_next : at + 8 ≤ to → 8 < need + 2 * rank true (word_bits byte) 8 → excess (word_bits word) (at + 8) ≡ excess (word_bits word) from -ℤ pos drop +ℤ pos (need + 2 * rank true (word_bits byte) 8 - 8)
  level_next h m = omega (arith, ints, level, excess_from word at byte agrees 8 (omega arith) (omega arith), eight_ones byte, m)

  -- no place after the passed ones, as far as none in the byte is one
  pub passed_next : (n : ℕ) → n ≤ 8 → ((p : ℕ) → 0 < p → p ≤ n → ¬ Falls byte need p) → (q : ℕ) → from < q → q ≤ at + n → q ≤ to → excess (word_bits word) q ≢ excess (word_bits word) from -ℤ pos drop
  passed_next n h none q a b c e =
      ⊎_elim
      (λ (l : at < q).
      let k = q - at in
      let s : at + k ≡ q = omega arith in
      let f : excess (word_bits word) q ≡ excess (word_bits word) at +ℤ excess (word_bits byte) k = ap (excess (word_bits word)) (sym s) ∙ excess_from word at byte agrees k (omega arith) (omega arith) in
      none k (omega arith) (omega arith) (omega (arith, ints, level, e, f)))
      (λ (l : q ≤ at). passed q a l c e)
      (cases_lt at q)

  pub first_in_byte : (p : ℕ) → IsNext (Falls byte need) 0 8 (Some p) → p ≤ to - at → IsNext (λ q. excess (word_bits word) q ≡ excess (word_bits word) from -ℤ pos drop) from to (Some (at + p))
  first_in_byte p n h = (
    omega (arith, n.0),
    omega arith,
    omega (arith, ints, level, n.2, excess_from word at byte agrees p n.1 (omega arith)),
    λ q a b e. passed_next (p - 1) (omega (arith, n.1)) (λ r l m. n.3 r l (omega (arith, n.0))) q a (omega (arith, n.0)) (omega arith) e,
  )

  pub none_in_byte : (p : ℕ) → IsNext (Falls byte need) 0 8 (Some p) → to - at < p → IsNext (λ q. excess (word_bits word) q ≡ excess (word_bits word) from -ℤ pos drop) from to None
  none_in_byte p n h = λ q a b e. passed_next (p - 1) (omega (arith, n.1)) (λ r l m. n.3 r l (omega (arith, n.0))) q a (omega (arith, n.0)) b e

module _ (word from to drop at need byte : ℕ) (within : to ≤ 64) (high : at ≤ to) (before : from < at) (level : excess (word_bits word) at ≡ excess (word_bits word) to -ℤ pos drop +ℤ pos need) (passed : (q : ℕ) → at ≤ q → from ≤ q → q < to → excess (word_bits word) q ≢ excess (word_bits word) to -ℤ pos drop) (agrees : (i : ℕ) → i < 8 → 8 ≤ at + i → is_set byte i ≡ is_set word (at + i - 8)) where
  pub level_back : from < at - 8 → 2 * rank true (word_bits byte) 8 < need + 8 → excess (word_bits word) (at - 8) ≡ excess (word_bits word) to -ℤ pos drop +ℤ pos (need + 8 - 2 * rank true (word_bits byte) 8)
  level_back h m =
      let f : excess (word_bits word) at +ℤ excess (word_bits byte) 0 ≡ excess (word_bits word) (at - 8) +ℤ excess (word_bits byte) 8 = excess_up_to word at byte (omega arith) agrees 8 (omega arith) (omega arith) in
      omega (arith, ints, level, f, excess-zero (word_bits byte), eight_ones byte, m)

  pub passed_back : (n : ℕ) → ((p : ℕ) → n ≤ p → p < 8 → ¬ Rises byte need p) → (q : ℕ) → at + n ≤ q + 8 → from ≤ q → q < to → excess (word_bits word) q ≢ excess (word_bits word) to -ℤ pos drop
  passed_back n none q a b c e =
      ⊎_elim
      (λ (l : q < at).
      let k = at - q in
      let s : at - k ≡ q = omega arith in
      let f' = excess_up_to word at byte (omega arith) agrees k (omega arith) (omega arith) in
      let f : excess (word_bits word) at +ℤ excess (word_bits byte) (8 - k) ≡ excess (word_bits word) q +ℤ excess (word_bits byte) 8 = rw s at f' in
      none (8 - k) (omega arith) (omega arith) (omega (arith, ints, level, e, f)))
      (λ (l : at ≤ q). passed q l b c e)
      (cases_lt q at)

  pub last_in_byte : (p : ℕ) → IsLast (Rises byte need) 0 8 (Some p) → from + 8 ≤ at + p → IsLast (λ q. excess (word_bits word) q ≡ excess (word_bits word) to -ℤ pos drop) from to (Some (at + p - 8))
  last_in_byte p n h =
      let k = 8 - p in
      let s : at - k ≡ at + p - 8 = omega (arith, n.1) in
      let t : 8 - k ≡ p = omega (arith, n.1) in
      let f' = excess_up_to word at byte (omega arith) agrees k (omega arith) (omega (arith, n.1)) in
      let f : excess (word_bits word) at +ℤ excess (word_bits byte) p ≡ excess (word_bits word) (at + p - 8) +ℤ excess (word_bits byte) 8 = rw (s, t) at f' in (
        omega arith,
        omega (arith, n.1),
        omega (arith, ints, level, n.2, f),
        λ q a b e. passed_back (p + 1) (λ r l m. n.3 r (omega arith) m) q (omega arith) (omega arith) b e,
      )

  pub no_last_in_byte : (p : ℕ) → IsLast (Rises byte need) 0 8 (Some p) → at + p < from + 8 → IsLast (λ q. excess (word_bits word) q ≡ excess (word_bits word) to -ℤ pos drop) from to None
  no_last_in_byte p n h = λ q a b e. passed_back (p + 1) (λ r l m. n.3 r (omega arith) m) q (omega arith) a b e
