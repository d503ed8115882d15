-- Words that hold numbers of one width are those of one number.
use Rattle.std.proofs.Common.{◌≡◌, ℕ, zero, suc, ◌+◌, ◌*◌, ◌/◌, ◌%◌, ◌^◌, ◌<◌, ◌≤◌, List, [], ◌∷◌, length, get_or, drop, refl, ap, sym, ◌∙◌, arith, div-one, subst, map, Bool, eqb, true, false, lit<, lit≤, ⊎_elim}
use Rattle.std.specs.List.{range_with_len}
use Rattle.std.proofs.Math.Nat.{mod-eq_of_lt, pow-le-pow_right, lt_of_lt_of_le, lt_of_le_of_lt, mod-mod, mul-le-mul_left, add-mul-mod_self_left, add-mul-div_left, div-eq_of_lt, zero-div, mod-le}
use Rattle.std.proofs.lemmas.List.{same_lists, get_or_default, get_or_past, length-map}
use Rattle.std.proofs.lemmas.Nat.{mod-pow-add, shr-shr, pow-add, mod_below, pow_pos, shr_below}
use Rattle.std.proofs.lemmas.Nat.Bits.{same_from_bits_below, bit_at-lt}
use Rattle.std.proofs.lemmas.Bool.{cases_lt}
use Rattle.bit_words.specs.Bits.{stream, field_at, fields_in, bit_of, is_set, HoldsBits, bits_in}
use Rattle.bit_words.specs.Packed.{Packs}
use Rattle.bit_words.specs.Lists.{tabulate}
use Rattle.bit_words.proofs.BitLists.{length-tabulate, get_or-tabulate, bit_of-word}
use Rattle.bit_words.proofs.Streams.{stream-drop, stream-at, length-fields_in, get_or-fields_in, Packs-bits, bits_in-held}
use Rattle.file_laws.specs.Image.{joined, packed, ones}

no_power : (width : ℕ) → 2 ^ (0 * width) ≡ 1
no_power width = let e : 0 * width ≡ 0 = omega arith in rw e refl

-- each word is 64 bits of the number that all of them make
pub words_of_stream : (words : List ℕ) → ((k : ℕ) → get_or words k 0 < 2 ^ 64) → words ≡ tabulate (length words) (λ k. stream words / 2 ^ (64 * k) % 2 ^ 64)
words_of_stream words small =
    same_lists _ _ (sym (length-tabulate (length words) _))
    (λ k d p.
    let at : stream words / 2 ^ (64 * k) % 2 ^ 64 ≡ get_or words k 0 =
    let e = stream-drop k words ∙ stream-at k words in
    let m : get_or words k 0 % 2 ^ 64 ≡ get_or words k 0 = mod-eq_of_lt (small k) in
    let s : (get_or words k 0 % 2 ^ 64 + 2 ^ 64 * stream (drop (k + 1) words)) % 2 ^ 64 ≡ get_or words k 0 % 2 ^ 64 = omega arith in
    ap (λ x. x % 2 ^ 64) e ∙ s ∙ m in
    get_or_default words k d 0 p ∙ sym at ∙ sym (get_or-tabulate (length words) (λ k. stream words / 2 ^ (64 * k) % 2 ^ 64) k d p))

-- the parts of one width, joined again
joined_parts : (x width from n : ℕ) → joined width (map (λ i. x / 2 ^ (i * width) % 2 ^ width) (range_with_len from n)) ≡ x / 2 ^ (from * width) % 2 ^ (n * width)
unfolding joined
joined_parts x width from zero = let e = no_power width in sym (rw e (omega arith))
joined_parts x width from (suc n) =
    let y = x / 2 ^ (from * width) in
    let e : (from + 1) * width ≡ from * width + width = omega arith in
    let next : x / 2 ^ ((from + 1) * width) ≡ y / 2 ^ width = rw e (sym (shr-shr x (from * width) width)) in
    let more = joined_parts x width (from + 1) n in
    let s : y % 2 ^ (n * width + width) ≡ (y / 2 ^ width % 2 ^ (n * width)) * 2 ^ width + y % 2 ^ width = mod-pow-add y (n * width) width in
    let f : suc n * width ≡ n * width + width = omega arith in
    rw (more, next, f, s) (omega arith)

stream_parts : (x from n : ℕ) → stream (map (λ k. x / 2 ^ (64 * k) % 2 ^ 64) (range_with_len from n)) ≡ x / 2 ^ (64 * from) % 2 ^ (64 * n)
unfolding stream
stream_parts x from zero = let e : 2 ^ (64 * 0) ≡ 1 = refl in sym (rw e (omega arith))
stream_parts x from (suc n) =
    let y = x / 2 ^ (64 * from) in
    let e : 64 * (from + 1) ≡ 64 * from + 64 = omega arith in
    let next : x / 2 ^ (64 * (from + 1)) ≡ y / 2 ^ 64 = rw e (sym (shr-shr x (64 * from) 64)) in
    let more = stream_parts x (from + 1) n in
    let s : y % 2 ^ (64 * n + 64) ≡ (y / 2 ^ 64 % 2 ^ (64 * n)) * 2 ^ 64 + y % 2 ^ 64 = mod-pow-add y (64 * n) 64 in
    let f : 64 * suc n ≡ 64 * n + 64 = omega arith in
    let m : y % 2 ^ 64 % 2 ^ 64 ≡ y % 2 ^ 64 = mod-mod y (2 ^ 64) in
    rw (more, next, f, s, m) (omega arith)

joined_words : (words : List ℕ) → ((k : ℕ) → get_or words k 0 < 2 ^ 64) → joined 64 words ≡ stream words
unfolding joined stream
joined_words [] small = refl
joined_words (word ∷ words) small =
    let m : word % 2 ^ 64 ≡ word = mod-eq_of_lt (small 0) in
    let more = joined_words words (λ k. small (suc k)) in
    rw (m, more) refl

pub length-packed : (width : ℕ) (items : List ℕ) → length (packed width items) ≡ (length items * width + 63) / 64
unfolding packed
length-packed width items = length-tabulate _ _

pub joined-lt : (width : ℕ) (items : List ℕ) → ((k : ℕ) → get_or items k 0 < 2 ^ width) → joined width items < 2 ^ (length items * width)
unfolding joined
joined-lt width [] small = let e = no_power width in rw e (lit< tt)
joined-lt width (item ∷ more) small =
    let a : item < 2 ^ width = small 0 in
    let b : joined width more < 2 ^ (length more * width) = joined-lt width more (λ k. small (suc k)) in
    let e : suc (length more) * width ≡ width + length more * width = omega arith in
    let f : 2 ^ (suc (length more) * width) ≡ 2 ^ width * 2 ^ (length more * width) = rw e (pow-add 2 width (length more * width)) in
    let c : 2 ^ width * (joined width more + 1) ≤ 2 ^ width * 2 ^ (length more * width) = mul-le-mul_left (2 ^ width) (omega arith) in
    rw f (omega arith)

-- the number at a place
pub joined-at : (width : ℕ) (items : List ℕ) (i : ℕ) → ((k : ℕ) → get_or items k 0 < 2 ^ width) → joined width items / 2 ^ (i * width) % 2 ^ width ≡ get_or items i 0
unfolding joined
joined-at width [] i small = rw (zero-div (2 ^ (i * width))) (mod-eq_of_lt (pow_pos width))
joined-at width (item ∷ more) zero small =
    let e = no_power width in
    let a : item < 2 ^ width = small 0 in
    let m : (item + 2 ^ width * joined width more) % 2 ^ width ≡ item % 2 ^ width = add-mul-mod_self_left item (2 ^ width) (joined width more) in
    rw (e, div-one (item + 2 ^ width * joined width more)) (m ∙ mod-eq_of_lt a)
joined-at width (item ∷ more) (suc i) small =
    let a : item < 2 ^ width = small 0 in
    let e : suc i * width ≡ width + i * width = omega arith in
    let d : (item + 2 ^ width * joined width more) / 2 ^ width ≡ joined width more = add-mul-div_left item (joined width more) (pow_pos width) ∙ omega (arith, div-eq_of_lt a) in
    rw (e, ← shr-shr (item + 2 ^ width * joined width more) width (i * width), d) (joined-at width more i (λ k. small (suc k)))

pub stream-packed : (width : ℕ) (items : List ℕ) → ((k : ℕ) → get_or items k 0 < 2 ^ width) → stream (packed width items) ≡ joined width items
unfolding packed tabulate
stream-packed width items small =
    let n = (length items * width + 63) / 64 in
    let x = joined width items in
    let e : 2 ^ (64 * 0) ≡ 1 = refl in
    let p : stream (packed width items) ≡ x / 2 ^ (64 * 0) % 2 ^ (64 * n) = stream_parts x 0 n in
    let b : x < 2 ^ (64 * n) = lt_of_lt_of_le (joined-lt width items small) (pow-le-pow_right (lit< tt) (omega arith)) in
    p ∙ rw (e, div-one x) (mod-eq_of_lt b)

pub fields-packed : (width : ℕ) (items : List ℕ) → ((k : ℕ) → get_or items k 0 < 2 ^ width) → fields_in (packed width items) (length items) width ≡ items
unfolding field_at
fields-packed width items small =
    same_lists _ _ (length-fields_in (packed width items) (length items) width)
    (λ k d p.
    let q : k < length items = rw length-fields_in at p in
    get_or-fields_in (packed width items) (length items) width k d q
    ∙ ap (λ x. x / 2 ^ (k * width) % 2 ^ width) (stream-packed width items small)
    ∙ joined-at width items k small ∙ get_or_default items k 0 d q)

pub Packs-packed : (width : ℕ) (items : List ℕ) → 1 ≤ width → width ≤ 64 → length items ≤ 2147483647 → ((k : ℕ) → get_or items k 0 < 2 ^ width) → Packs (packed width items) (length items) width
Packs-packed width items some narrow few small =
    record {
      some = some;
      narrow = narrow;
      few = few;
      size = length-packed width items;
      rest = rw (stream-packed width items small) (joined-lt width items small);
    }

-- words that hold these numbers
pub packed_is : (words : List ℕ) (width : ℕ) (items : List ℕ) → Packs words (length items) width → fields_in words (length items) width ≡ items → ((k : ℕ) → get_or words k 0 < 2 ^ 64) → words ≡ packed width items
unfolding packed fields_in field_at tabulate
packed_is words width items h e small =
    let e0 = no_power width in
    let parts : joined width (fields_in words (length items) width) ≡ stream words / 2 ^ (0 * width) % 2 ^ (length items * width) = joined_parts (stream words) width 0 (length items) in
    let j : joined width items ≡ stream words = ap (joined width) (sym e) ∙ parts ∙ rw (e0, div-one (stream words)) (mod-eq_of_lt h.rest) in
    words_of_stream words small ∙ ap (λ n. tabulate n (λ k. stream words / 2 ^ (64 * k) % 2 ^ 64)) h.size
    ∙ ap (λ x. tabulate ((length items * width + 63) / 64) (λ k. x / 2 ^ (64 * k) % 2 ^ 64)) (sym j)

packed-at : (width : ℕ) (items : List ℕ) (k : ℕ) → k < (length items * width + 63) / 64 → get_or (packed width items) k 0 ≡ joined width items / 2 ^ (64 * k) % 2 ^ 64
unfolding packed
packed-at width items k h = get_or-tabulate ((length items * width + 63) / 64) (λ k. joined width items / 2 ^ (64 * k) % 2 ^ 64) k 0 h

pub packed-below : (width : ℕ) (items : List ℕ) (k : ℕ) → get_or (packed width items) k 0 < 2 ^ 64
packed-below width items k =
    ⊎_elim
    (λ (h : k < (length items * width + 63) / 64). rw (packed-at width items k h) (mod_below (joined width items / 2 ^ (64 * k)) (2 ^ 64) (pow_pos 64)))
    (λ (h : (length items * width + 63) / 64 ≤ k). rw (get_or_past (packed width items) k 0 (rw length-packed h)) (lit< tt))
    (cases_lt k ((length items * width + 63) / 64))

same_bit : (x y : ℕ) → x < 2 → y < 2 → eqb x 1 ≡ eqb y 1 → x ≡ y
same_bit zero zero h g e = refl
same_bit zero (suc zero) h g e = cc
same_bit (suc zero) zero h g e = cc
same_bit (suc zero) (suc zero) h g e = refl
same_bit (suc (suc x)) y h g e = absurd (omega arith)
same_bit x (suc (suc y)) h g e = absurd (omega arith)

-- words with the same bits
pub same_words : (words others : List ℕ) → length words ≡ length others → ((k : ℕ) → get_or words k 0 < 2 ^ 64) → ((k : ℕ) → get_or others k 0 < 2 ^ 64) → ((i : ℕ) → bit_of words i ≡ bit_of others i) → words ≡ others
unfolding is_set
same_words words others e small small' same =
    same_lists words others e
    (λ k d p.
    let at : get_or words k 0 ≡ get_or others k 0 =
    same_from_bits_below 64 _ _ (small k) (small' k)
    (λ i h.
    let s : is_set (get_or words k 0) i ≡ is_set (get_or others k 0) i = sym (bit_of-word words k i h) ∙ same (64 * k + i) ∙ bit_of-word others k i h in
    same_bit _ _ (bit_at-lt _ i) (bit_at-lt _ i) s) in
    get_or_default words k d 0 p ∙ at ∙ get_or_default others k 0 d (omega arith))

pub ones-below : (bits : List Bool) (k : ℕ) → get_or (ones bits) k 0 < 2 ^ 1
ones-below [] k = lit< tt
ones-below (true ∷ bits) zero = lit< tt
ones-below (false ∷ bits) zero = lit< tt
ones-below (true ∷ bits) (suc k) = ones-below bits k
ones-below (false ∷ bits) (suc k) = ones-below bits k

bits_of-ones : (bits : List Bool) → map (λ (x : ℕ). eqb x 1) (ones bits) ≡ bits
bits_of-ones [] = refl
bits_of-ones (true ∷ bits) = ap (λ bs. true ∷ bs) (bits_of-ones bits)
bits_of-ones (false ∷ bits) = ap (λ bs. false ∷ bs) (bits_of-ones bits)

pub holds-packed : (bits : List Bool) → length bits ≤ 2147483647 → HoldsBits (packed 1 (ones bits)) bits
holds-packed bits few =
    subst (HoldsBits (packed 1 (ones bits))) (bits_of-ones bits)
    (Packs-bits (packed 1 (ones bits)) (ones bits) (Packs-packed 1 (ones bits) (lit≤ tt) (lit≤ tt) (rw length-map few) (ones-below bits)) (fields-packed 1 (ones bits) (ones-below bits)))

pub bits-packed : (bits : List Bool) → length bits ≤ 2147483647 → bits_in (packed 1 (ones bits)) (length bits) ≡ bits
bits-packed bits few = bits_in-held (packed 1 (ones bits)) bits (holds-packed bits few)

-- words that hold these bits
pub packed_bits : (words : List ℕ) (bits : List Bool) → length bits ≤ 2147483647 → HoldsBits words bits → ((k : ℕ) → get_or words k 0 < 2 ^ 64) → words ≡ packed 1 (ones bits)
packed_bits words bits few h small =
    let p = holds-packed bits few in
    same_words words (packed 1 (ones bits)) (h.size ∙ sym p.size) small (packed-below 1 (ones bits)) (λ i. h.bit i ∙ sym (p.bit i))

-- the last word holds no bit behind the last number
pub padded : (width : ℕ) (items : List ℕ) → ((k : ℕ) → get_or items k 0 < 2 ^ width) → 0 < length items * width % 64 → get_or (packed width items) (length items * width / 64) 0 < 2 ^ (length items * width % 64)
padded width items small more =
    let n = length items * width in
    let x = joined width items in
    let b : x < 2 ^ (n % 64 + 64 * (n / 64)) = subst (λ m. x < 2 ^ m) (let e : n ≡ n % 64 + 64 * (n / 64) = omega arith in e) (joined-lt width items small) in
    let c : x / 2 ^ (64 * (n / 64)) < 2 ^ (n % 64) = shr_below x (n % 64) (64 * (n / 64)) b in
    rw (packed-at width items (n / 64) (omega arith))
    (lt_of_le_of_lt (mod-le (x / 2 ^ (64 * (n / 64))) (2 ^ 64)) c)

-- fields are of their width
pub fields-below : (words : List ℕ) (count width k : ℕ) → get_or (fields_in words count width) k 0 < 2 ^ width
unfolding field_at
fields-below words count width k =
    ⊎_elim
    (λ (h : k < count). rw (get_or-fields_in words count width k 0 h) (mod_below (stream words / 2 ^ (k * width)) (2 ^ width) (pow_pos width)))
    (λ (h : count ≤ k). rw (get_or_past (fields_in words count width) k 0 (rw length-fields_in h)) (pow_pos width))
    (cases_lt k count)

-- words as numbers of 64 bits
pub whole_packed : (words : List ℕ) → ((k : ℕ) → get_or words k 0 < 2 ^ 64) → packed 64 words ≡ words
unfolding packed
whole_packed words small =
    let n : (length words * 64 + 63) / 64 ≡ length words = omega arith in
    let j : joined 64 words ≡ stream words = joined_words words small in
    rw (n, j) (sym (words_of_stream words small))
