-- laws of what the bits of a byte come to, and of the bytes of a word
use Rattle.std.specs.Int.RustNames.{count_ones}
use Rattle.std.specs.Prelude.{find, FitsSigned, ℤ, pos, negsuc, ◌+ℤ◌, ◌-ℤ◌, ◌≤ℤ◌, ◌<ℤ◌}
use Rattle.std.specs.Int.{bit_at, w8, w64, cast_signed, cast_unsigned, int_min}
use Rattle.std.proofs.Math.Nat.{mod-le}
use Rattle.std.proofs.Common.{◌≡◌, ◌≢◌, ℕ, zero, suc, ◌+◌, ◌-◌, ◌*◌, ◌/◌, ◌%◌, ◌^◌, ◌<◌, ◌≤◌, ◌⊎◌, inl, inr, not, Bool, true, false, List, length, get_or, refl, ap, sym, subst, ◌∙◌, arith, ⊎_elim, eqb, eq-eqb, eqb-true, ◌==◌, ◌&&◌, Option, None, Some, add-zero, min}
use Rattle.std.proofs.lemmas.Bool.{cases_lt, cases_Bool, and_parts, both_ways}
use Rattle.std.proofs.lemmas.Int.{ints, clamps, to_z-of_z, by_lt_z}
use Rattle.std.proofs.lemmas.Nat.{field_of, shr-shr, shl-shr, mod-pow-add, mod_below, pow_pos, ones_cat}
use Rattle.std.proofs.lemmas.Nat.Bits.{bit_at-lt, bit_at_not, bit_at_above}
use Rattle.std.specs.List.{range_with_len}
use Rattle.bit_words.proofs.Finds.{least-find, none-find}
use Rattle.std.proofs.Math.Pow.{mod-mod-pow}
use Rattle.bit_words.specs.Bits.{is_set, word_bits, rank, excess}
use Rattle.bit_words.specs.Bytes.{byte_excess, byte_least, least_front, place_in_byte, place_or, IsByteOne}
use Rattle.bit_words.proofs.BitLists.{length-word_bits, get_or-word_bits}
use Rattle.bit_words.proofs.Ranks.{rank-zero, rank-le, rank-le-rank, rank_both, rank_more_yes, rank_more_no, excess_up, excess_down}

pub excess-zero : (bits : List Bool) → excess bits 0 ≡ pos 0
unfolding excess
excess-zero bits = omega (arith, ints, rank-zero true bits, rank-zero false bits)

-- no front sums to more or less than its length
pub excess-bounds : (bits : List Bool) (k : ℕ) → k ≤ length bits → ((pos 0 -ℤ pos k) ≤ℤ excess bits k) × (excess bits k ≤ℤ pos k)
unfolding excess
excess-bounds bits k h = let b = rank_both bits k h in (omega (arith, ints, b), omega (arith, ints, b))

pub least_front-le : (bits : List Bool) (n k : ℕ) → k ≤ n → least_front bits n ≤ℤ excess bits k
unfolding least_front
least_front-le bits zero k h = let e : k ≡ 0 = omega arith in rw e (omega (arith, ints, excess-zero bits))
least_front-le bits (suc n) k h =
    ⊎_elim
    (λ (l : k < suc n). let r = least_front-le bits n k (omega arith) in omega (arith, ints, clamps, r))
    (λ (l : suc n ≤ k). let e : k ≡ suc n = omega arith in rw e (omega (arith, ints, clamps)))
    (cases_lt k (suc n))

pub least_front-bounds : (bits : List Bool) (n : ℕ) → n ≤ length bits → ((pos 0 -ℤ pos n) ≤ℤ least_front bits n) × (least_front bits n ≤ℤ pos 0)
unfolding least_front
least_front-bounds bits zero h = (omega (arith, ints), omega (arith, ints))
least_front-bounds bits (suc n) h =
    let r = least_front-bounds bits n (omega arith) in
    let b = excess-bounds bits (suc n) h in
    (omega (arith, ints, clamps, r.0, b.0), omega (arith, ints, clamps, r.1))

-- numbers of so few digits stay as they are in eight bits
pub small_fits : (z : ℤ) → (pos 0 -ℤ pos 8) ≤ℤ z → z ≤ℤ pos 8 → FitsSigned w8 z
small_fits (pos n) a b = record { sfits = omega (arith, ints, b) }
small_fits (negsuc n) a b = record { sfits = omega (arith, ints, a) }

pub small_kept : (z : ℤ) → (pos 0 -ℤ pos 8) ≤ℤ z → z ≤ℤ pos 8 → cast_signed w8 (cast_unsigned w8 z) ≡ z
small_kept z a b = to_z-of_z w8 z (small_fits z a b)

eight_in : (byte : ℕ) → 8 ≤ length (word_bits byte)
eight_in byte = rw length-word_bits (omega arith)

pub byte_excess-bounds : (byte : ℕ) → ((pos 0 -ℤ pos 8) ≤ℤ byte_excess byte) × (byte_excess byte ≤ℤ pos 8)
unfolding byte_excess
byte_excess-bounds byte = excess-bounds (word_bits byte) 8 (eight_in byte)

pub byte_least-bounds : (byte : ℕ) → ((pos 0 -ℤ pos 8) ≤ℤ byte_least byte) × (byte_least byte ≤ℤ pos 0)
unfolding byte_least
byte_least-bounds byte = least_front-bounds (word_bits byte) 8 (eight_in byte)

-- eight bits sum to twice their ones, less 8
pub eight_ones : (byte : ℕ) → excess (word_bits byte) 8 +ℤ pos 8 ≡ pos (2 * rank true (word_bits byte) 8)
unfolding excess
eight_ones byte = omega (arith, ints, rank_both (word_bits byte) 8 (eight_in byte))

-- no more is risen than there are bits
pub excess-rise : (bits : List Bool) (p n : ℕ) → p ≤ n → n ≤ length bits → excess bits n ≤ℤ (excess bits p +ℤ pos n)
unfolding excess
excess-rise bits p n h l = omega (arith, ints, rank_both bits p (omega arith), rank_both bits n l, rank-le-rank false bits p n h)

pub byte_excess-is : (byte : ℕ) → byte_excess byte ≡ excess (word_bits byte) 8
unfolding byte_excess
byte_excess-is byte = refl

-- ---- where the bits of a byte stand

bit_low : (n k i : ℕ) → i < k → bit_at (n % 2 ^ k) i ≡ bit_at n i
bit_low n k i h =
    let j = k - i - 1 in
    let e : j + 1 + i ≡ k = omega arith in
    let f : n % 2 ^ k / 2 ^ i ≡ n / 2 ^ i % 2 ^ (j + 1) = subst (λ x. n % 2 ^ x / 2 ^ i ≡ n / 2 ^ i % 2 ^ (j + 1)) e (field_of n (j + 1) i) in
    ap (λ x. x % 2) f ∙ mod-mod-pow (n / 2 ^ i) j 1

bit_shifted : (n at i : ℕ) → bit_at (n / 2 ^ at) i ≡ bit_at n (at + i)
bit_shifted n at i = ap (λ x. x % 2) (shr-shr n at i)

bit_raised : (n s t : ℕ) → bit_at (n * 2 ^ s) (s + t) ≡ bit_at n t
bit_raised n s t = sym (bit_shifted (n * 2 ^ s) s t) ∙ ap (λ x. bit_at x t) (shl-shr n s)

pub set_shifted : (word at i : ℕ) → is_set (word / 2 ^ at) i ≡ is_set word (at + i)
unfolding is_set
set_shifted word at i = ap (λ x. eqb x 1) (bit_shifted word at i)

pub bit_from : (word at i : ℕ) → i < 8 → is_set (word / 2 ^ at % 2 ^ 8) i ≡ is_set word (at + i)
unfolding is_set
bit_from word at i h = ap (λ x. eqb x 1) (bit_low (word / 2 ^ at) 8 i h ∙ bit_shifted word at i)

pub bit_up_to : (word at i : ℕ) → at ≤ 64 → i < 8 → 8 ≤ at + i → is_set (word * 2 ^ (64 - at) % 2 ^ 64 / 2 ^ 56) i ≡ is_set word (at + i - 8)
unfolding is_set
bit_up_to word at i a h l =
    let s = 64 - at in
    let t = at + i - 8 in
    let n = word * 2 ^ s in
    let e : 56 + i ≡ s + t = omega arith in
    ap (λ x. eqb x 1)
    (ap (λ x. bit_at x i) (field_of n 8 56) ∙ bit_low (n / 2 ^ 56) 8 i h ∙ bit_shifted n 56 i ∙ ap (bit_at n) e ∙ bit_raised word s t)

-- ---- counts of a byte and of its word

same_step : (kind : Bool) (xs ys : List Bool) (i j : ℕ) → i < length xs → j < length ys → get_or xs i false ≡ get_or ys j false
    → rank kind xs (i + 1) + rank kind ys j ≡ rank kind ys (j + 1) + rank kind xs i
same_step kind xs ys i j h l e =
    ⊎_elim
    (λ (y : get_or ys j false ≡ kind). omega (arith, rank_more_yes kind xs i false h (e ∙ y), rank_more_yes kind ys j false l y))
    (λ (n : get_or ys j false ≡ not kind). omega (arith, rank_more_no kind xs i false h (e ∙ n), rank_more_no kind ys j false l n))
    (is_or_not (get_or ys j false) kind)
  where
    is_or_not : (b kind : Bool) → (b ≡ kind) ⊎ (b ≡ not kind)
    is_or_not true true = inl refl
    is_or_not true false = inr refl
    is_or_not false true = inr refl
    is_or_not false false = inl refl

pub same_excess : (xs ys : List Bool) (i j : ℕ) → i < length xs → j < length ys → get_or xs i false ≡ get_or ys j false
    → excess xs (i + 1) +ℤ excess ys j ≡ excess ys (j + 1) +ℤ excess xs i
unfolding excess
same_excess xs ys i j h l e = omega (arith, ints, same_step true xs ys i j h l e, same_step false xs ys i j h l e)

module _ (word at byte : ℕ) (agrees : (i : ℕ) → i < 8 → at + i < 64 → is_set byte i ≡ is_set word (at + i)) where
  pub rank_from : (kind : Bool) (k : ℕ) → k ≤ 8 → at + k ≤ 64 → rank kind (word_bits word) (at + k) ≡ rank kind (word_bits word) at + rank kind (word_bits byte) k
  rank_from kind zero h l = omega (arith, rank-zero kind (word_bits byte), ap (rank kind (word_bits word)) (add-zero at))
  rank_from kind (suc k) h l =
      let r : rank kind (word_bits word) (at + k) ≡ rank kind (word_bits word) at + rank kind (word_bits byte) k = rank_from kind k (omega arith) (omega arith) in
      let e : at + suc k ≡ at + k + 1 = omega arith in
      let e' : suc k ≡ k + 1 = omega arith in
      let b : get_or (word_bits word) (at + k) false ≡ get_or (word_bits byte) k false =
      get_or-word_bits word (at + k) false (omega arith) ∙ sym (agrees k (omega arith) (omega arith)) ∙ sym (get_or-word_bits byte k false (omega arith)) in
      let s = same_step kind (word_bits word) (word_bits byte) (at + k) k (rw length-word_bits (omega arith)) (rw length-word_bits (omega arith)) b in
      rw (e, e') (omega (arith, r, s))

  pub excess_from : (k : ℕ) → k ≤ 8 → at + k ≤ 64 → excess (word_bits word) (at + k) ≡ excess (word_bits word) at +ℤ excess (word_bits byte) k
  unfolding excess
  excess_from k h l = omega (arith, ints, rank_from true k h l, rank_from false k h l)

module _ (word at byte : ℕ) (high : at ≤ 64) (agrees : (i : ℕ) → i < 8 → 8 ≤ at + i → is_set byte i ≡ is_set word (at + i - 8)) where
  rank_up_to : (kind : Bool) (k : ℕ) → k ≤ 8 → k ≤ at → rank kind (word_bits word) at + rank kind (word_bits byte) (8 - k) ≡ rank kind (word_bits word) (at - k) + rank kind (word_bits byte) 8
  rank_up_to kind zero h l =
      let e : at - 0 ≡ at = omega arith in
      let e' : 8 - 0 ≡ 8 = omega arith in
      rw (e, e') refl
  rank_up_to kind (suc k) h l =
      let r = rank_up_to kind k (omega arith) (omega arith) in
      let i = at - suc k in
      let j = 8 - suc k in
      let e : at - k ≡ i + 1 = omega arith in
      let e' : 8 - k ≡ j + 1 = omega arith in
      let p : at + j - 8 ≡ i = omega arith in
      let b : get_or (word_bits word) i false ≡ get_or (word_bits byte) j false =
      get_or-word_bits word i false (omega arith) ∙ sym (agrees j (omega arith) (omega arith) ∙ ap (is_set word) p) ∙ sym (get_or-word_bits byte j false (omega arith)) in
      let s = same_step kind (word_bits word) (word_bits byte) i j (rw length-word_bits (omega arith)) (rw length-word_bits (omega arith)) b in
      let r' : rank kind (word_bits word) at + rank kind (word_bits byte) (j + 1) ≡ rank kind (word_bits word) (i + 1) + rank kind (word_bits byte) 8 = rw (← e, ← e') r in
      omega (arith, r', s)

  pub excess_up_to : (k : ℕ) → k ≤ 8 → k ≤ at → excess (word_bits word) at +ℤ excess (word_bits byte) (8 - k) ≡ excess (word_bits word) (at - k) +ℤ excess (word_bits byte) 8
  unfolding excess
  excess_up_to k h l = omega (arith, ints, rank_up_to true k h l, rank_up_to false k h l)

-- ---- an excess that is above some number, and not that number further on or before

step_by_one : (bits : List Bool) (p : ℕ) → p < length bits → (excess bits p ≤ℤ (excess bits (p + 1) +ℤ pos 1)) × (excess bits (p + 1) ≤ℤ (excess bits p +ℤ pos 1))
step_by_one bits p h =
    let P : Bool → Type 0 = λ b. get_or bits p false ≡ b → (excess bits p ≤ℤ (excess bits (p + 1) +ℤ pos 1)) × (excess bits (p + 1) ≤ℤ (excess bits p +ℤ pos 1)) in
    let at : (b : Bool) → P b = λ b. elim b as P [
      | true ↦ λ e. let u = excess_up bits p false h e in (omega (arith, ints, u), omega (arith, ints, u))
      | false ↦ λ e. let u = excess_down bits p false h e in (omega (arith, ints, u), omega (arith, ints, u))
    ] in
    at (get_or bits p false) refl

-- what falls by one at most and does not come to t stays above it
beyond : (x y t : ℤ) → t <ℤ x → x ≤ℤ (y +ℤ pos 1) → y ≢ t → t <ℤ y
beyond x y t a b d = by_lt_z t y (λ l. l) (λ l. absurd (d (omega (arith, ints))))

pub above_further : (bits : List Bool) (t : ℤ) (at n : ℕ) → at + n ≤ length bits → t <ℤ excess bits at → ((q : ℕ) → at < q → q ≤ at + n → excess bits q ≢ t) → (k : ℕ) → k ≤ n → t <ℤ excess bits (at + k)
above_further bits t at n h a none zero l = rw add-zero a
above_further bits t at n h a none (suc k) l =
    let r = above_further bits t at n h a none k (omega arith) in
    let e : at + suc k ≡ at + k + 1 = omega arith in
    let s = step_by_one bits (at + k) (omega arith) in
    let d = none (at + k + 1) (omega arith) (omega arith) in
    rw e (beyond (excess bits (at + k)) (excess bits (at + k + 1)) t r s.0 d)

pub above_before : (bits : List Bool) (t : ℤ) (at n : ℕ) → at ≤ length bits → n ≤ at → t <ℤ excess bits at → ((q : ℕ) → at ≤ q + n → q < at → excess bits q ≢ t) → (k : ℕ) → k ≤ n → t <ℤ excess bits (at - k)
above_before bits t at n h m a none zero l = let e : at - 0 ≡ at = omega arith in rw e a
above_before bits t at n h m a none (suc k) l =
    let r = above_before bits t at n h m a none k (omega arith) in
    let i = at - suc k in
    let e : at - k ≡ i + 1 = omega arith in
    let r' : t <ℤ excess bits (i + 1) = rw e at r in
    let s = step_by_one bits i (omega arith) in
    let d = none i (omega arith) (omega arith) in
    beyond (excess bits (i + 1)) (excess bits i) t r' s.1 d

-- ---- counts of ones, and the places of ones in a byte

one_digit : (b : ℕ) → b < 2 → count_ones b ≡ b
unfolding count_ones
one_digit zero h = refl
one_digit (suc zero) h = refl
one_digit (suc (suc b)) h = absurd (omega arith)

no_digits : count_ones 0 ≡ 0
unfolding count_ones
no_digits = refl

set_is : (n k : ℕ) → is_set n k ≡ eqb (bit_at n k) 1
unfolding is_set
set_is n k = refl

-- one bit more is one more where it is set
ranked_step : (n k : ℕ) → k < 64 → rank true (word_bits n) (k + 1) ≡ rank true (word_bits n) k + bit_at n k
ranked_step n k h =
    let within : k < length (word_bits n) = rw length-word_bits h in
    let g : get_or (word_bits n) k false ≡ eqb (bit_at n k) 1 = get_or-word_bits n k false h ∙ set_is n k in
    let P : ℕ → Type 0 = λ b. get_or (word_bits n) k false ≡ eqb b 1 → b < 2 → rank true (word_bits n) (k + 1) ≡ rank true (word_bits n) k + b in
    let at : (b : ℕ) → P b = λ b. elim b as P [
      | zero ↦ λ e l. omega (arith, rank_more_no true (word_bits n) k false within e)
      | suc b ↦ λ e l. let z : b ≡ 0 = omega arith in rw z (omega (arith, rank_more_yes true (word_bits n) k false within (rw z at e)))
    ] in
    at (bit_at n k) g (bit_at-lt n k)

pub ones_low : (n k : ℕ) → k ≤ 64 → count_ones (n % 2 ^ k) ≡ rank true (word_bits n) k
ones_low n zero h =
    let e : n % 2 ^ 0 ≡ 0 = omega arith in
    rw e (no_digits ∙ sym (rank-zero true (word_bits n)))
ones_low n (suc k) h =
    let r = ones_low n k (omega arith) in
    let e : 1 + k ≡ suc k = omega arith in
    let e' : suc k ≡ k + 1 = omega arith in
    let s : n % 2 ^ (1 + k) ≡ bit_at n k * 2 ^ k + n % 2 ^ k = mod-pow-add n 1 k in
    let c = ones_cat k (bit_at n k) (n % 2 ^ k) (mod_below n (2 ^ k) (pow_pos k)) in
    let b = one_digit (bit_at n k) (bit_at-lt n k) in
    let t : count_ones (n % 2 ^ suc k) ≡ count_ones (bit_at n k * 2 ^ k + n % 2 ^ k) = ap (λ x. count_ones (n % 2 ^ x)) (sym e) ∙ ap count_ones s in
    let u = ranked_step n k (omega arith) in
    rw (t, e') (omega (arith, r, c, b, u))

pub ones_byte : (byte : ℕ) → byte < 2 ^ 8 → count_ones byte ≡ rank true (word_bits byte) 8
ones_byte byte h =
    let e : byte % 2 ^ 8 ≡ byte = omega arith in
    ap count_ones (sym e) ∙ ones_low byte 8 (omega arith)

no_place : (byte j n : ℕ) → n ≤ 64 → ((p : ℕ) → p < n → (is_set byte p && (rank true (word_bits byte) p == j)) ≡ false) → rank true (word_bits byte) n ≤ j
no_place byte j zero h none = omega (arith, rank-zero true (word_bits byte))
no_place byte j (suc n) h none =
    let r = no_place byte j n (omega arith) (λ p l. none p (omega arith)) in
    let within : n < length (word_bits byte) = rw length-word_bits (omega arith) in
    let e : suc n ≡ n + 1 = omega arith in
    let g = get_or-word_bits byte n false (omega arith) in
    rw e
    (elim (cases_Bool (is_set byte n)) [
      | inl y ↦
          let m = rank_more_yes true (word_bits byte) n false within (g ∙ y) in
          ⊎_elim
          (λ (l : rank true (word_bits byte) n < j). omega arith)
          (λ (l : j ≤ rank true (word_bits byte) n).
          let q : rank true (word_bits byte) n ≡ j = omega arith in
          let f : (true && (rank true (word_bits byte) n == j)) ≡ false = rw y at (none n (omega arith)) in
          absurd (both_ways (rank true (word_bits byte) n == j) f (eq-eqb (rank true (word_bits byte) n) j q)))
          (cases_lt (rank true (word_bits byte) n) j)
      | inr y ↦ omega (arith, r, rank_more_no true (word_bits byte) n false within (g ∙ y))
    ])

pub place_found : (byte j : ℕ) → j < rank true (word_bits byte) 8 → IsByteOne byte j (place_in_byte (8 * byte + j))
unfolding place_in_byte
place_found byte j h =
    let small : j < 8 = omega (arith, rank-le true (word_bits byte) 8) in
    let a : (8 * byte + j) / 8 ≡ byte = omega arith in
    let b : (8 * byte + j) % 8 ≡ j = omega arith in
    let test : ℕ → Bool = λ p. is_set byte p && (rank true (word_bits byte) p == j) in
    let P : Option ℕ → Type 0 = λ o. find test (range_with_len 0 8) ≡ o → IsByteOne byte j (place_or 8 o) in
    let at : (o : Option ℕ) → P o = λ o. elim o as P [
      | None ↦ λ e. absurd (omega (arith, h, no_place byte j 8 (omega arith) (λ p l. none-find test 0 8 e p (omega arith) (omega arith))))
      | Some p ↦ λ e.
          let l = least-find test 0 8 p e in
          let t = and_parts (is_set byte p) (rank true (word_bits byte) p == j) l.passes in
          record { within = omega (arith, l.within); one = t.0; below = eqb-true (rank true (word_bits byte) p) j t.1 }
    ] in
    rw (a, b) (at (find test (range_with_len 0 8)) refl)

-- ---- the least front of more bits

pub least_front-zero : (bits : List Bool) → least_front bits 0 ≡ pos 0
unfolding least_front
least_front-zero bits = refl

pub least_front-suc : (bits : List Bool) (n : ℕ) → least_front bits (suc n) ≡ int_min (least_front bits n) (excess bits (suc n))
unfolding least_front
least_front-suc bits n = refl

module _ (word at byte : ℕ) (agrees : (i : ℕ) → i < 8 → at + i < 64 → is_set byte i ≡ is_set word (at + i)) where
  least_from : (n : ℕ) → n ≤ 8 → at + n ≤ 64 → least_front (word_bits word) (at + n) ≡ int_min (least_front (word_bits word) at) (excess (word_bits word) at +ℤ least_front (word_bits byte) n)
  least_from zero h l =
      let a = least_front-le (word_bits word) at at (omega arith) in
      let e : at + 0 ≡ at = omega arith in
      rw e (omega (arith, ints, clamps, a, least_front-zero (word_bits byte)))
  least_from (suc n) h l =
      let r = least_from n (omega arith) (omega arith) in
      let e : at + suc n ≡ suc (at + n) = omega arith in
      let x : excess (word_bits word) (suc (at + n)) ≡ excess (word_bits word) at +ℤ excess (word_bits byte) (suc n) = rw e at (excess_from word at byte agrees (suc n) h l) in
      rw e (omega (arith, ints, clamps, r, x, least_front-suc (word_bits word) (at + n), least_front-suc (word_bits byte) n))

  -- one byte more
  pub least_more : at + 8 ≤ 64 → least_front (word_bits word) (at + 8) ≡ int_min (least_front (word_bits word) at) (excess (word_bits word) at +ℤ byte_least byte)
  unfolding byte_least
  least_more l = least_from 8 (omega arith) l

  pub excess_more : at + 8 ≤ 64 → excess (word_bits word) (at + 8) ≡ excess (word_bits word) at +ℤ byte_excess byte
  excess_more l = rw byte_excess-is (excess_from word at byte agrees 8 (omega arith) l)

-- ones at the end bring no front lower
pub least_front-ones : (word from n : ℕ) → from + n ≤ 64 → ((i : ℕ) → from ≤ i → i < 64 → is_set word i ≡ true) → (least_front (word_bits word) (from + n) ≡ least_front (word_bits word) from) × (excess (word_bits word) from ≤ℤ excess (word_bits word) (from + n))
least_front-ones word from zero h ones =
    let e : from + 0 ≡ from = omega arith in
    rw e (refl, omega (arith, ints))
least_front-ones word from (suc n) h ones =
    let r = least_front-ones word from n (omega arith) ones in
    let e : from + suc n ≡ from + n + 1 = omega arith in
    let e' : from + n + 1 ≡ suc (from + n) = omega arith in
    let u = excess_up (word_bits word) (from + n) false (rw length-word_bits (omega arith)) (get_or-word_bits word (from + n) false (omega arith) ∙ ones (from + n) (omega arith) (omega arith)) in
    let a = least_front-le (word_bits word) from from (omega arith) in
    let s : least_front (word_bits word) (from + n + 1) ≡ int_min (least_front (word_bits word) (from + n)) (excess (word_bits word) (from + n + 1)) = rw e' (least_front-suc (word_bits word) (from + n)) in
    rw e (omega (arith, ints, clamps, r.0, r.1, u, a, s), omega (arith, ints, r.1, u))

-- words that agree so far
pub least_front-same : (word other n : ℕ) → n ≤ 64 → ((i : ℕ) → i < n → is_set other i ≡ is_set word i) → (least_front (word_bits other) n ≡ least_front (word_bits word) n) × (excess (word_bits other) n ≡ excess (word_bits word) n)
least_front-same word other zero h same =
    (least_front-zero (word_bits other) ∙ sym (least_front-zero (word_bits word)), excess-zero (word_bits other) ∙ sym (excess-zero (word_bits word)))
least_front-same word other (suc n) h same =
    let r = least_front-same word other n (omega arith) (λ i l. same i (omega arith)) in
    let e : suc n ≡ n + 1 = omega arith in
    let b = get_or-word_bits other n false (omega arith) ∙ same n (omega arith) ∙ sym (get_or-word_bits word n false (omega arith)) in
    let x = same_excess (word_bits other) (word_bits word) n n (rw length-word_bits (omega arith)) (rw length-word_bits (omega arith)) b in
    let x' : excess (word_bits other) (suc n) +ℤ excess (word_bits word) n ≡ excess (word_bits word) (suc n) +ℤ excess (word_bits other) n = rw e x in
    (omega (arith, ints, clamps, r.0, r.1, x', least_front-suc (word_bits other) n, least_front-suc (word_bits word) n), omega (arith, ints, r.1, x'))

-- what the filled word gives
pub least_filled : (word filled count n : ℕ) → count ≤ n → n ≤ 64 → ((i : ℕ) → i < count → is_set filled i ≡ is_set word i) → ((i : ℕ) → count ≤ i → i < 64 → is_set filled i ≡ true) → least_front (word_bits filled) n ≡ least_front (word_bits word) count
least_filled word filled count n c h low high =
    let m = n - count in
    let e : count + m ≡ n = omega arith in
    let a = least_front-ones filled count m (omega arith) high in
    let b = least_front-same word filled count (omega arith) low in
    ap (least_front (word_bits filled)) (sym e) ∙ a.0 ∙ b.0

shorter : (n m : ℕ) → n < 2 ^ 64 → n % m < 2 ^ 64
shorter n m h = omega (arith, mod-le n m)

-- the low bits of a word, and no bits above them, are the complement of the filled complement
pub filled_low : (word from i : ℕ) → word < 2 ^ 64 → from ≤ 64 → i < from → is_set (2 ^ 64 - 1 - (2 ^ 64 - 1 - word) % 2 ^ from) i ≡ is_set word i
unfolding is_set
filled_low word from i w h l =
    let low : (2 ^ 64 - 1 - word) % 2 ^ from < 2 ^ 64 = shorter (2 ^ 64 - 1 - word) (2 ^ from) (omega arith) in
    let a = bit_at_not w64 ((2 ^ 64 - 1 - word) % 2 ^ from) i low (omega arith) in
    let b = bit_low (2 ^ 64 - 1 - word) from i l in
    let c = bit_at_not w64 word i w (omega arith) in
    let d = bit_at-lt word i in
    let s : bit_at (2 ^ 64 - 1 - (2 ^ 64 - 1 - word) % 2 ^ from) i ≡ bit_at word i = omega (arith, a, b, c, d) in
    ap (λ x. eqb x 1) s

pub filled_high : (word from i : ℕ) → from ≤ i → i < 64 → is_set (2 ^ 64 - 1 - (2 ^ 64 - 1 - word) % 2 ^ from) i ≡ true
unfolding is_set
filled_high word from i h l =
    let low : (2 ^ 64 - 1 - word) % 2 ^ from < 2 ^ 64 = shorter (2 ^ 64 - 1 - word) (2 ^ from) (omega arith) in
    let a = bit_at_not w64 ((2 ^ 64 - 1 - word) % 2 ^ from) i low l in
    let b = bit_at_above ((2 ^ 64 - 1 - word) % 2 ^ from) from i (mod_below _ (2 ^ from) (pow_pos from)) h in
    let s : bit_at (2 ^ 64 - 1 - (2 ^ 64 - 1 - word) % 2 ^ from) i ≡ 1 = omega (arith, a, b) in
    ap (λ x. eqb x 1) s

-- what the excess before a byte can be, plus 64
pub excess_room : (word k excess_now : ℕ) → k < 8 → pos excess_now ≡ excess (word_bits word) (8 * k) +ℤ pos 64 → (8 ≤ excess_now) × (excess_now ≤ 128)
excess_room word k excess_now h e =
    let b = excess-bounds (word_bits word) (8 * k) (rw length-word_bits (omega arith)) in
    (omega (arith, ints, e, b.0), omega (arith, ints, e, b.1))

-- one byte more, plus 64
pub fall_more : (word k byte excess_now least_now total least : ℕ) → k < 8 → ((i : ℕ) → i < 8 → 8 * k + i < 64 → is_set byte i ≡ is_set word (8 * k + i))
    → pos excess_now ≡ excess (word_bits word) (8 * k) +ℤ pos 64 → pos least_now ≡ least_front (word_bits word) (8 * k) +ℤ pos 64
    → pos total ≡ byte_excess byte +ℤ pos 8 → pos least ≡ byte_least byte +ℤ pos 8
    → (pos (excess_now + total - 8) ≡ excess (word_bits word) (8 * (k + 1)) +ℤ pos 64) × (pos (min least_now (excess_now + least - 8)) ≡ least_front (word_bits word) (8 * (k + 1)) +ℤ pos 64)
fall_more word k byte excess_now least_now total least h agrees e l t m =
    let f : 8 * (k + 1) ≡ 8 * k + 8 = omega arith in
    let x = excess_more word (8 * k) byte agrees (omega arith) in
    let y = least_more word (8 * k) byte agrees (omega arith) in
    let r = excess_room word k excess_now h e in
    rw f (omega (arith, ints, x, e, t, r.0), omega (arith, ints, clamps, y, e, l, m, r.0))

-- what the bytes come to
pub fall_whole : (word filled count k least_now : ℕ) → count ≤ 64 → count ≤ 8 * k → 8 * k ≤ 64 → ((i : ℕ) → i < count → is_set filled i ≡ is_set word i) → ((i : ℕ) → count ≤ i → i < 64 → is_set filled i ≡ true)
    → pos least_now ≡ least_front (word_bits filled) (8 * k) +ℤ pos 64 → (pos least_now ≡ least_front (word_bits word) count +ℤ pos 64) × (least_now ≤ 64) × (64 ≤ least_now + count)
fall_whole word filled count k least_now c h l low high e =
    let s = least_filled word filled count (8 * k) h l low high in
    let b = least_front-bounds (word_bits word) count (rw length-word_bits c) in
    (omega (arith, ints, e, s), omega (arith, ints, e, s, b.1), omega (arith, ints, e, s, b.0))
