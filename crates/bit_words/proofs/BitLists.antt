-- laws of lists made by index, and of the bits of words
use Rattle.std.specs.Int.{bit_at}
use Rattle.std.proofs.Common.{◌≡◌, ℕ, ◌+◌, ◌-◌, ◌*◌, ◌/◌, ◌%◌, ◌^◌, ◌<◌, ◌≤◌, Bool, false, eqb, List, [], ◌∷◌, ◌++◌, length, get_or, take, bit_and, refl, ap, sym, ◌∙◌, arith, ⊎_elim}
use Rattle.std.proofs.lemmas.List.{same_lists, get_or_past}
use Rattle.std.proofs.lemmas.List.FromFn.{length-map-range_with_len, get_or-map-range_with_len, take-map-range_with_len, map-range_with_len_more}
use Rattle.std.proofs.lemmas.Nat.{one_shl}
use Rattle.std.proofs.lemmas.Bool.{cases_lt}
use Rattle.std.proofs.lemmas.Nat.Bits.{shr_and_one, bit_at_and, bit_at_ones, bit_at_ones_above, bit_at-lt}
use Rattle.bit_words.specs.Lists.{tabulate}
use Rattle.bit_words.specs.Bits.{is_set, word_bits, bit_of, bits_in}

module _ {X : Type 0} where
  pub length-tabulate : (n : ℕ) (f : ℕ → X) → length (tabulate n f) ≡ n
  unfolding tabulate
  length-tabulate n f = length-map-range_with_len f 0 n

  pub get_or-tabulate : (n : ℕ) (f : ℕ → X) (i : ℕ) (d : X) → i < n → get_or (tabulate n f) i d ≡ f i
  unfolding tabulate
  get_or-tabulate n f i d h = get_or-map-range_with_len f 0 n i i d h (omega arith)

  pub tabulate_more : (n : ℕ) (f : ℕ → X) → tabulate (n + 1) f ≡ tabulate n f ++ f n ∷ []
  unfolding tabulate
  tabulate_more n f = map-range_with_len_more f 0 n n (omega arith)

  pub take-tabulate : (k n : ℕ) (f : ℕ → X) → k ≤ n → take k (tabulate n f) ≡ tabulate k f
  unfolding tabulate
  take-tabulate k n f h = take-map-range_with_len f 0 n k h

  pub tabulate_same : (n : ℕ) (f g : ℕ → X) → ((i : ℕ) → i < n → f i ≡ g i) → tabulate n f ≡ tabulate n g
  tabulate_same n f g h =
      same_lists _ _ (length-tabulate n f ∙ sym (length-tabulate n g))
      (λ k d p. let q : k < n = rw length-tabulate at p in get_or-tabulate n f k d q ∙ h k q ∙ sym (get_or-tabulate n g k d q))

pub length-bits_in : (words : List ℕ) (n : ℕ) → length (bits_in words n) ≡ n
unfolding bits_in
length-bits_in words n = length-tabulate n (bit_of words)

pub get_or-bits_in : (words : List ℕ) (n i : ℕ) (d : Bool) → i < n → get_or (bits_in words n) i d ≡ bit_of words i
unfolding bits_in
get_or-bits_in words n i d h = get_or-tabulate n (bit_of words) i d h

-- the test that reads a bit
pub shifted_bit : (words : List ℕ) (n i : ℕ) → i < length (bits_in words n) → eqb (bit_and (get_or words (i / 64) 0 / 2 ^ (i % 64)) 1) 1 ≡ get_or (bits_in words n) i false
unfolding bit_of is_set
shifted_bit words n i h = ap (λ x. eqb x 1) (shr_and_one (get_or words (i / 64) 0) (i % 64)) ∙ sym (get_or-bits_in words n i false (rw length-bits_in at h))

same_word : (j k : ℕ) → k < 64 → ((64 * j + k) / 64 ≡ j) × ((64 * j + k) % 64 ≡ k)
same_word j k h = (omega arith, omega arith)

-- a bit of word j
pub bit_of-word : (words : List ℕ) (j k : ℕ) → k < 64 → bit_of words (64 * j + k) ≡ is_set (get_or words j 0) k
unfolding bit_of
bit_of-word words j k h = rw ((same_word j k h).0, (same_word j k h).1) refl

-- a word whose bits are all within the first n
pub chunk_whole : (words : List ℕ) (n j : ℕ) → 64 ≤ n - 64 * j → (k : ℕ) → k < 64 → is_set (get_or words j 0) k ≡ get_or (bits_in words n) (64 * j + k) false
chunk_whole words n j h k p = sym (bit_of-word words j k p) ∙ sym (get_or-bits_in words n (64 * j + k) false (omega arith))

is_set-low : (word left k : ℕ) → k < left → is_set (bit_and word (2 ^ left - 1)) k ≡ is_set word k
unfolding is_set
is_set-low word left k h =
    let e = bit_at_and word (2 ^ left - 1) k in
    let f = bit_at_ones left k h in
    let g = bit_at-lt word k in
    let m : bit_at (bit_and word (2 ^ left - 1)) k ≡ bit_at word k = omega arith in
    ap (λ x. eqb x 1) m

is_set-high : (word left k : ℕ) → left ≤ k → is_set (bit_and word (2 ^ left - 1)) k ≡ false
unfolding is_set
is_set-high word left k h =
    let e = bit_at_and word (2 ^ left - 1) k in
    let f = bit_at_ones_above left k h in
    let m : bit_at (bit_and word (2 ^ left - 1)) k ≡ 0 = omega arith in
    ap (λ x. eqb x 1) m

-- the last word, cut where the bits end
pub chunk_cut : (words : List ℕ) (n j left : ℕ) → n - 64 * j ≡ left → 64 * j < length (bits_in words n) → left < 64 → (k : ℕ) → k < 64 → is_set (bit_and (get_or words j 0) (1 * 2 ^ left % 2 ^ 64 - 1)) k ≡ get_or (bits_in words n) (64 * j + k) false
chunk_cut words n j left e b' h k p =
    let b : 64 * j < n = rw length-bits_in at b' in
    rw (one_shl left 64 h)
    (⊎_elim
    (λ (q : k < left). is_set-low (get_or words j 0) left k q ∙ sym (bit_of-word words j k p) ∙ sym (get_or-bits_in words n (64 * j + k) false (omega arith)))
    (λ (q : left ≤ k). is_set-high (get_or words j 0) left k q ∙ sym (get_or_past (bits_in words n) (64 * j + k) false (rw length-bits_in (omega arith))))
    (cases_lt k left))

pub length-word_bits : (word : ℕ) → length (word_bits word) ≡ 64
unfolding word_bits
length-word_bits word = length-tabulate 64 (is_set word)

pub get_or-word_bits : (word i : ℕ) (d : Bool) → i < 64 → get_or (word_bits word) i d ≡ is_set word i
unfolding word_bits
get_or-word_bits word i d h = get_or-tabulate 64 (is_set word) i d h

pub ruleset bit_lists = (length-bits_in, get_or-bits_in, shifted_bit, bit_of-word, length-word_bits, get_or-word_bits)
