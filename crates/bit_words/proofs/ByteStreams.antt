-- the bytes of words: eight bytes from any byte on are a field of the words, and what is read of it is a field too
use Rattle.std.proofs.Common.{◌≡◌, ℕ, zero, suc, ◌+◌, ◌-◌, ◌*◌, ◌/◌, ◌%◌, ◌^◌, ◌<◌, ◌≤◌, List, drop, slice_index, refl, ap, sym, ◌∙◌, subst, arith}
use Rattle.std.proofs.Math.Nat.{add-mul-div_left, add-mul-mod_self_left, div-eq_of_lt, mod-eq_of_lt, mul_assoc}
use Rattle.std.proofs.Math.Pow.{mod-mod-pow}
use Rattle.std.proofs.lemmas.List.{get_or-drop}
use Rattle.std.proofs.lemmas.Nat.{field_of, pow-add, pow_pos, shr-shr}
use Rattle.byteorder.specs.Endian.{little_from, little_number}
use Rattle.byteorder.specs.Numbers.{little_from-lt}
use Rattle.byteorder.proofs.Bytes.{pow256}
use Rattle.bit_words.specs.Bits.{stream, field_at}
use Rattle.bit_words.specs.Words.{words_in}
use Rattle.bit_words.proofs.Streams.{stream-zero, stream-cons}

-- the first bytes of a number, and what stands behind them
little_from-split : (a n b i j : ℕ) (xs : List ℕ) → n ≡ a + b → j ≡ i + a → little_from i n xs ≡ little_from i a xs + 2 ^ (8 * a) * little_from j b xs
little_from-split zero n b i j xs e f =
    let p : n ≡ b = omega arith in
    let q : j ≡ i = omega arith in
    rw (p, q) (omega arith)
little_from-split (suc a) zero b i j xs e f = absurd (omega arith)
little_from-split (suc a) (suc n) b i j xs e f =
    let s : 8 * suc a ≡ 8 + 8 * a = omega arith in
    let p : 2 ^ (8 * suc a) ≡ 256 * 2 ^ (8 * a) = ap (λ k. 2 ^ k) s ∙ pow-add 2 8 (8 * a) in
    let r = little_from-split a n b (suc i) j xs (omega arith) (omega arith) in
    rw (r, p, mul_assoc 256 (2 ^ (8 * a)) (little_from j b xs)) (omega arith)

-- bytes left out move the places on
little_from-drop : (n i d j : ℕ) (xs : List ℕ) → j ≡ d + i → little_from i n (drop d xs) ≡ little_from j n xs
little_from-drop zero i d j xs e = refl
little_from-drop (suc n) i d j xs e =
    let byte = get_or-drop d xs i 0 in
    let rest = little_from-drop n (suc i) d (suc j) xs (omega arith) in
    rw (byte, rest, e) refl

little_from-small : (i n : ℕ) (xs : List ℕ) → ((k : ℕ) → slice_index xs k < 256) → little_from i n xs < 2 ^ (8 * n)
little_from-small i n xs h = rw pow256 at (little_from-lt i n xs h)

-- words as one number are their bytes as one number
stream-bytes : (n : ℕ) (bytes : List ℕ) → ((k : ℕ) → slice_index bytes k < 256) → stream (words_in n bytes) ≡ little_from 0 (8 * n) bytes
unfolding words_in
stream-bytes zero bytes h = stream-zero
stream-bytes (suc n) bytes h =
    let word : little_from 0 8 bytes % 2 ^ 64 ≡ little_from 0 8 bytes = mod-eq_of_lt (little_from-small 0 8 bytes h) in
    let rest : stream (words_in n (drop 8 bytes)) ≡ little_from 8 (8 * n) bytes =
    stream-bytes n (drop 8 bytes) (λ k. rw get_or-drop (h (8 + k))) ∙ little_from-drop (8 * n) 0 8 8 bytes refl in
    stream-cons (little_from 0 8 bytes) (words_in n (drop 8 bytes))
    ∙ ap (λ x. x + 2 ^ 64 * stream (words_in n (drop 8 bytes))) word
    ∙ ap (λ x. little_from 0 8 bytes + 2 ^ 64 * x) rest
    ∙ sym (little_from-split 8 (8 * suc n) (8 * n) 0 8 bytes (omega arith) refl)

-- k bytes from byte b on are a field
some_bytes : (n b k : ℕ) (bytes : List ℕ) → ((i : ℕ) → slice_index bytes i < 256) → b + k ≤ 8 * n → little_from 0 k (drop b bytes) ≡ field_at (words_in n bytes) (8 * b) (8 * k)
unfolding field_at
some_bytes n b k bytes h within =
    let r = 8 * n - b - k in
    let low = little_from 0 b bytes in
    let field = little_from b k bytes in
    let high = little_from (b + k) r bytes in
    let rest = little_from b (k + r) bytes in
    let s : stream (words_in n bytes) ≡ low + 2 ^ (8 * b) * rest =
    stream-bytes n bytes h ∙ little_from-split b (8 * n) (k + r) 0 b bytes (omega arith) (omega arith) in
    let none : low / 2 ^ (8 * b) ≡ 0 = div-eq_of_lt (little_from-small 0 b bytes h) in
    let t : (low + 2 ^ (8 * b) * rest) / 2 ^ (8 * b) ≡ rest =
    add-mul-div_left low rest (pow_pos (8 * b)) ∙ omega (arith, none) in
    let u : rest ≡ field + 2 ^ (8 * k) * high = little_from-split k (k + r) r b (b + k) bytes refl refl in
    let kept : (field + 2 ^ (8 * k) * high) % 2 ^ (8 * k) ≡ field =
    add-mul-mod_self_left field (2 ^ (8 * k)) high ∙ mod-eq_of_lt (little_from-small b k bytes h) in
    little_from-drop k 0 b b bytes (omega arith)
    ∙ sym (ap (λ x. x / 2 ^ (8 * b) % 2 ^ (8 * k)) s ∙ ap (λ x. x % 2 ^ (8 * k)) (t ∙ u) ∙ kept)

-- four bytes from byte b on are a field of 32 bits
pub four_bytes : (n b : ℕ) (bytes : List ℕ) → ((i : ℕ) → slice_index bytes i < 256) → b + 4 ≤ 8 * n → little_number 4 (drop b bytes) ≡ field_at (words_in n bytes) (8 * b) 32
four_bytes n b bytes h within = some_bytes n b 4 bytes h within

-- eight bytes from byte b on are a field of 64 bits
pub eight_bytes : (n b : ℕ) (bytes : List ℕ) → ((i : ℕ) → slice_index bytes i < 256) → b + 8 ≤ 8 * n → little_number 8 (drop b bytes) ≡ field_at (words_in n bytes) (8 * b) 64
eight_bytes n b bytes h within = some_bytes n b 8 bytes h within

-- a field of a field
pub field_in_field : (words : List ℕ) (from width place part : ℕ) → place + part ≤ width → field_at words from width / 2 ^ place % 2 ^ part ≡ field_at words (from + place) part
unfolding field_at
field_in_field words from width place part h =
    let x = stream words / 2 ^ from in
    let k = width - place in
    let j = width - place - part in
    let e : k + place ≡ width = omega arith in
    let e' : j + part ≡ k = omega arith in
    let g : x % 2 ^ width / 2 ^ place ≡ x / 2 ^ place % 2 ^ k = subst (λ n. x % 2 ^ n / 2 ^ place ≡ x / 2 ^ place % 2 ^ k) e (field_of x k place) in
    let m : x / 2 ^ place % 2 ^ k % 2 ^ part ≡ x / 2 ^ place % 2 ^ part = subst (λ n. x / 2 ^ place % 2 ^ n % 2 ^ part ≡ x / 2 ^ place % 2 ^ part) e' (mod-mod-pow (x / 2 ^ place) j part) in
    ap (λ y. y % 2 ^ part) g ∙ m ∙ ap (λ y. y % 2 ^ part) (shr-shr (stream words) from place)
