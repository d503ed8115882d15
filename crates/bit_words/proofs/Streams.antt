-- laws of `stream` and of fields
use Rattle.std.proofs.Common.{◌≡◌, ℕ, zero, suc, ◌+◌, ◌-◌, ◌*◌, ◌/◌, ◌%◌, ◌^◌, ◌<◌, ◌≤◌, List, [], ◌∷◌, ◌++◌, length, get_or, drop, set, bit_and, bit_or, refl, ap, sym, ◌∙◌, arith, ⊎_elim, subst, div-one, add_comm, lit<, length-append, Bool, false, eqb, map}
use Rattle.std.proofs.Math.Nat.{pow-le-pow_right, lt_of_lt_of_le, lt_of_le_of_lt, le_trans, mul-le-mul_left, div-eq_of_lt}
use Rattle.std.proofs.lemmas.Bool.{cases_lt}
use Rattle.std.proofs.lemmas.List.{same_lists, get_or_default, drop_more, drop_all, get_or_past, get_or_read, get_or_append_left, get_or-map, length-map}
use Rattle.std.proofs.lemmas.Nat.{pow_pos, pow-add, shr-shr, and_mask, one_shl, mod-pow-add, shr_below, shr_le, shl-shr, or_lt, mod_below, shr_split, field_of, row_fits}
use Rattle.std.proofs.Math.Nat.{add-mul-div_left, add-mul-mod_self_left, add-mod-mod, mul_assoc, mul_comm, mul-mod_left, mod-eq_of_lt}
use Rattle.std.proofs.Math.Pow.{mod-mod-pow}
use Rattle.std.specs.Int.Bits.{or_shifted_r}
use Rattle.bit_words.specs.Bits.{stream, field_at, fields_in, bit_of, bits_in, is_set, HoldsBits}
use Rattle.bit_words.proofs.BitLists.{length-tabulate, get_or-tabulate, tabulate_more, tabulate_same, length-bits_in, get_or-bits_in}
use Rattle.bit_words.specs.Packed.{Packs}
use Rattle.bit_words.specs.Lists.{tabulate}

times_split : (count i width : ℕ) → i < count → count * width ≡ i * width + (width + (count - i - 1) * width)
times_split count i width h =
    let e : count ≡ i + (1 + (count - i - 1)) = omega arith in
    ap (λ n. n * width) e ∙ omega arith

-- a multiple of a power, shifted and masked
pub shift_sum : (a x r k : ℕ) → (a + 2 ^ (r + k) * x) / 2 ^ r ≡ a / 2 ^ r + 2 ^ k * x
shift_sum a x r k = rw (pow-add 2 r k, mul_assoc (2 ^ r) (2 ^ k) x) (add-mul-div_left a (2 ^ k * x) (pow_pos r))

pub mask_sum : (a x w k : ℕ) → (a + 2 ^ (w + k) * x) % 2 ^ w ≡ a % 2 ^ w
mask_sum a x w k = rw (pow-add 2 w k, mul_assoc (2 ^ w) (2 ^ k) x) (add-mul-mod_self_left a (2 ^ w) (2 ^ k * x))

pub stream-zero : stream [] ≡ 0
unfolding stream
stream-zero = refl

pub stream-cons : (word : ℕ) (words : List ℕ) → stream (word ∷ words) ≡ word % 2 ^ 64 + 2 ^ 64 * stream words
unfolding stream
stream-cons word words = refl

zero-div : (k : ℕ) → 0 / 2 ^ k ≡ 0
zero-div k = omega (arith, shr_le 0 k)

-- to shift by whole words is to drop them
pub stream-drop : (q : ℕ) (words : List ℕ) → stream words / 2 ^ (64 * q) ≡ stream (drop q words)
stream-drop zero words = div-one (stream words)
stream-drop (suc q) [] = rw stream-zero (zero-div (64 * suc q))
stream-drop (suc q) (word ∷ words) =
    let e : 64 + 64 * q ≡ 64 * suc q = omega arith in
    let one : (word % 2 ^ 64 + 2 ^ 64 * stream words) / 2 ^ 64 ≡ stream words = shift_sum (word % 2 ^ 64) (stream words) 64 0 ∙ omega arith in
    rw (← e) (sym (shr-shr (stream (word ∷ words)) 64 (64 * q)) ∙ ap (λ x. x / 2 ^ (64 * q)) (ap (λ x. x / 2 ^ 64) (stream-cons word words) ∙ one) ∙ stream-drop q words)

-- what stands from word q on begins with that word
pub stream-at : (q : ℕ) (words : List ℕ) → stream (drop q words) ≡ get_or words q 0 % 2 ^ 64 + 2 ^ 64 * stream (drop (q + 1) words)
stream-at q words =
    ⊎_elim
    (λ (h : q < length words). ap stream (drop_more words q 0 h) ∙ stream-cons _ _)
    (λ (h : length words ≤ q).
    rw (drop_all q words h, drop_all (q + 1) words (omega arith), get_or_past words q 0 h, stream-zero) refl)
    (cases_lt q (length words))

-- a field that stands in one word
pub field_in_one : (words : List ℕ) (q r w : ℕ) → r + w ≤ 64 → field_at words (64 * q + r) w ≡ get_or words q 0 % 2 ^ 64 / 2 ^ r % 2 ^ w
unfolding field_at
field_in_one words q r w h =
    let k = 64 - r - w in
    let a = get_or words q 0 % 2 ^ 64 in
    let X = stream (drop (q + 1) words) in
    let e : 64 ≡ r + (w + k) = omega arith in
    let s : stream words / 2 ^ (64 * q + r) ≡ a / 2 ^ r + 2 ^ (w + k) * X =
    sym (shr-shr (stream words) (64 * q) r) ∙ ap (λ x. x / 2 ^ r) (stream-drop q words ∙ stream-at q words)
    ∙ subst (λ n. (a + 2 ^ n * X) / 2 ^ r ≡ a / 2 ^ r + 2 ^ (w + k) * X) (sym e) (shift_sum a X r (w + k)) in
    ap (λ x. x % 2 ^ w) s ∙ mask_sum (a / 2 ^ r) X w k

-- a field, from the two words that it may stand in
pub field_in_two : (words : List ℕ) (q r w : ℕ) → r ≤ 64 → w ≤ 64 → field_at words (64 * q + r) w ≡ (get_or words q 0 % 2 ^ 64 / 2 ^ r + 2 ^ (64 - r) * (get_or words (q + 1) 0 % 2 ^ 64)) % 2 ^ w
unfolding field_at
field_in_two words q r w h l =
    let m = 64 - r in
    let k = 64 - w in
    let a = get_or words q 0 % 2 ^ 64 in
    let b = get_or words (q + 1) 0 % 2 ^ 64 in
    let X = stream (drop (q + 1) words) in
    let Y = stream (drop (q + 1 + 1) words) in
    let e : 64 ≡ r + m = omega arith in
    let s : stream words / 2 ^ (64 * q + r) ≡ a / 2 ^ r + 2 ^ m * X =
    sym (shr-shr (stream words) (64 * q) r) ∙ ap (λ x. x / 2 ^ r) (stream-drop q words ∙ stream-at q words)
    ∙ subst (λ n. (a + 2 ^ n * X) / 2 ^ r ≡ a / 2 ^ r + 2 ^ m * X) (sym e) (shift_sum a X r m) in
    let f : m + 64 ≡ w + (m + k) = omega arith in
    let t : 2 ^ m * X ≡ 2 ^ m * b + 2 ^ (w + (m + k)) * Y =
    ap (λ x. 2 ^ m * x) (stream-at (q + 1) words) ∙ rw (← f, pow-add 2 m 64) (omega arith) in
    let u : a / 2 ^ r + 2 ^ m * X ≡ (a / 2 ^ r + 2 ^ m * b) + 2 ^ (w + (m + k)) * Y = omega arith in
    ap (λ x. x % 2 ^ w) (s ∙ u) ∙ mask_sum (a / 2 ^ r + 2 ^ m * b) Y w (m + k)

-- the low bits of a word, shifted up
shifted_up : (b r m : ℕ) → b * 2 ^ m % 2 ^ (r + m) ≡ (b % 2 ^ r) * 2 ^ m
shifted_up b r m =
    let e = mod-pow-add (b * 2 ^ m) r m in
    let z : b * 2 ^ m % 2 ^ m ≡ 0 = mul-mod_left b (2 ^ m) in
    let d : b * 2 ^ m / 2 ^ m ≡ b = shl-shr b m in
    rw (mod-pow-add (b * 2 ^ m) r m, z, d) (omega arith)

-- two words put together, as code does it
pub joined : (a b r m w : ℕ) → a < 2 ^ 64 → r + m ≡ 64 → w ≤ 64 → bit_or (a / 2 ^ r) (b * 2 ^ m % 2 ^ 64) % 2 ^ w ≡ (a / 2 ^ r + 2 ^ m * b) % 2 ^ w
joined a b r m w small e l =
    let c : ℕ = b * 2 ^ m in
    let k = 64 - w in
    let e' : 64 ≡ m + r = omega arith in
    let low : a / 2 ^ r < 2 ^ m = shr_below a m r (subst (λ n. a < 2 ^ n) e' small) in
    let u : c % 2 ^ 64 ≡ (b % 2 ^ r) * 2 ^ m = subst (λ n. c % 2 ^ n ≡ (b % 2 ^ r) * 2 ^ m) e (shifted_up b r m) in
    let o : bit_or (a / 2 ^ r) (c % 2 ^ 64) ≡ c % 2 ^ 64 + a / 2 ^ r = rw u (or_shifted_r (b % 2 ^ r) m (a / 2 ^ r) low) in
    let f : k + w ≡ 64 = omega arith in
    let v : c % 2 ^ 64 % 2 ^ w ≡ c % 2 ^ w = subst (λ n. c % 2 ^ n % 2 ^ w ≡ c % 2 ^ w) f (mod-mod-pow c k w) in
    rw (o, add_comm (c % 2 ^ 64) (a / 2 ^ r), ← add-mod-mod (a / 2 ^ r) (c % 2 ^ 64) (2 ^ w), v, add-mod-mod, mul_comm (2 ^ m) b) refl

-- the parts of a place
place_parts : (from : ℕ) → 64 * (from / 64) + from % 64 ≡ from
place_parts from = omega arith

-- what code reads of a field in one word, and in two
pub value_one : (words : List ℕ) (from w word : ℕ) → word ≡ get_or words (from / 64) 0 → word < 2 ^ 64 → w ≤ 64 - from % 64 → word / 2 ^ (from % 64) % 2 ^ w ≡ field_at words from w
value_one words from w word e small h =
    let m : get_or words (from / 64) 0 % 2 ^ 64 ≡ word = rw (← e) (mod-eq_of_lt small) in
    let f = field_in_one words (from / 64) (from % 64) w (omega arith) in
    sym (rw (place_parts from, m) at f)

pub value_two : (words : List ℕ) (from w word next : ℕ) → word ≡ get_or words (from / 64) 0 → next ≡ get_or words (from / 64 + 1) 0 → word < 2 ^ 64 → next < 2 ^ 64 → w ≤ 64 → bit_or (word / 2 ^ (from % 64)) (next * 2 ^ (64 - from % 64) % 2 ^ 64) % 2 ^ w ≡ field_at words from w
value_two words from w word next e e' small small' h =
    let m : get_or words (from / 64) 0 % 2 ^ 64 ≡ word = rw (← e) (mod-eq_of_lt small) in
    let m' : get_or words (from / 64 + 1) 0 % 2 ^ 64 ≡ next = rw (← e') (mod-eq_of_lt small') in
    let f = field_in_two words (from / 64) (from % 64) w (omega arith) h in
    joined word next (from % 64) (64 - from % 64) w small (omega arith) h ∙ sym (rw (place_parts from, m, m') at f)

-- the mask of a width below 64, and none at 64
pub masked : (value w : ℕ) → w < 64 → bit_and value (1 * 2 ^ w % 2 ^ 64 - 1) ≡ value % 2 ^ w
masked value w h = rw (one_shl w 64 h) (and_mask value w)

pub length-fields_in : (words : List ℕ) (count width : ℕ) → length (fields_in words count width) ≡ count
unfolding fields_in
length-fields_in words count width = length-tabulate count _

pub get_or-fields_in : (words : List ℕ) (count width i d : ℕ) → i < count → get_or (fields_in words count width) i d ≡ field_at words (i * width) width
unfolding fields_in
get_or-fields_in words count width i d h = get_or-tabulate count (λ i. field_at words (i * width) width) i d h

pub ruleset fields = (length-fields_in, get_or-fields_in)

pub unmasked : (value w : ℕ) → value < 2 ^ 64 → w ≡ 64 → value ≡ value % 2 ^ w
unmasked value w h e = rw e (sym (mod-eq_of_lt h))

pub ruleset masks = (masked, unmasked)

-- ---- words that grow
pub stream_push : (words : List ℕ) (word : ℕ) → stream (words ++ word ∷ []) ≡ stream words + 2 ^ (64 * length words) * (word % 2 ^ 64)
stream_push [] word = rw (stream-cons word [], stream-zero) (omega arith)
stream_push (w ∷ words) word =
    let e : 64 * suc (length words) ≡ 64 + 64 * length words = omega arith in
    rw (stream-cons w (words ++ word ∷ []), stream-cons w words, stream_push words word, e, pow-add 2 64 (64 * length words), mul_assoc (2 ^ 64) (2 ^ (64 * length words)) (word % 2 ^ 64)) (omega arith)

pub stream-set : (words : List ℕ) (q x : ℕ) → q < length words → stream (set words q x) + 2 ^ (64 * q) * (get_or words q 0 % 2 ^ 64) ≡ stream words + 2 ^ (64 * q) * (x % 2 ^ 64)
stream-set [] q x h = absurd (omega arith)
stream-set (w ∷ words) zero x h = rw (stream-cons x words, stream-cons w words) (omega arith)
stream-set (w ∷ words) (suc q) x h =
    let r = stream-set words q x (omega arith) in
    let e : 64 * suc q ≡ 64 + 64 * q = omega arith in
    let A = 2 ^ (64 * q) * (get_or words q 0 % 2 ^ 64) in
    let B = 2 ^ (64 * q) * (x % 2 ^ 64) in
    rw (stream-cons w (set words q x), stream-cons w words, e, pow-add 2 64 (64 * q), mul_assoc (2 ^ 64) (2 ^ (64 * q)) (get_or words q 0 % 2 ^ 64), mul_assoc (2 ^ 64) (2 ^ (64 * q)) (x % 2 ^ 64)) (omega arith)

-- what stands in the last word is below its part that is in use
last_small : (words : List ℕ) (q r : ℕ) → stream words < 2 ^ (64 * q + r) → get_or words q 0 < 2 ^ 64 → get_or words q 0 < 2 ^ r
last_small words q r h small =
    let a : stream words / 2 ^ (64 * q) < 2 ^ r = shr_below (stream words) r (64 * q) (subst (λ n. stream words < 2 ^ n) (let e : 64 * q + r ≡ r + 64 * q = omega arith in e) h) in
    let b = stream-drop q words ∙ stream-at q words in
    let c : get_or words q 0 % 2 ^ 64 ≡ get_or words q 0 = mod-eq_of_lt small in
    omega arith

-- a number put into the bits of a word that are not in use
or_value : (w value place room : ℕ) → w < 2 ^ place → room + place ≡ 64 → bit_or w (value * 2 ^ place % 2 ^ 64) ≡ w + (value % 2 ^ room) * 2 ^ place
or_value w value place room h e =
    let u : value * 2 ^ place % 2 ^ 64 ≡ (value % 2 ^ room) * 2 ^ place = subst (λ n. value * 2 ^ place % 2 ^ n ≡ (value % 2 ^ room) * 2 ^ place) e (shifted_up value room place) in
    rw u (or_shifted_r (value % 2 ^ room) place w h ∙ add_comm _ w)

-- the last word of words that are in use up to bit `from`
module _ (words : List ℕ) (from width value : ℕ) (size : length words ≡ (from + 63) / 64) (rest : stream words < 2 ^ from) (narrow : width ≤ 64) (fits : value < 2 ^ width) where
  filled : (new : List ℕ) (w : ℕ) → 0 < from % 64 → from / 64 < length new → w ≡ get_or new (from / 64) 0 → get_or new (from / 64) 0 ≡ get_or words (from / 64) 0 → w < 2 ^ 64
      → stream (set new (from / 64) (bit_or w (value * 2 ^ (from % 64) % 2 ^ 64))) ≡ stream new + 2 ^ from * (value % 2 ^ (64 - from % 64))
  filled new w pos within e e' small =
      let q = from / 64 in
      let place = from % 64 in
      let room = 64 - place in
      let x = bit_or w (value * 2 ^ place % 2 ^ 64) in
      let p : 64 * q + place ≡ from = place_parts from in
      let l : get_or words q 0 < 2 ^ 64 = subst (λ n. n < 2 ^ 64) (e ∙ e') small in
      let low : w < 2 ^ place = subst (λ n. n < 2 ^ place) (sym (e ∙ e')) (last_small words q place (rw p rest) l) in
      let f : room + place ≡ 64 = omega arith in
      let v : x ≡ w + (value % 2 ^ room) * 2 ^ place = or_value w value place room low f in
      let m : value * 2 ^ place % 2 ^ 64 < 2 ^ 64 = mod_below (value * 2 ^ place) (2 ^ 64) (pow_pos 64) in
      let b : x % 2 ^ 64 ≡ x = mod-eq_of_lt (or_lt 64 w (value * 2 ^ place % 2 ^ 64) small m) in
      let a : w % 2 ^ 64 ≡ w = mod-eq_of_lt small in
      let s : stream (set new q x) + 2 ^ (64 * q) * w ≡ stream new + 2 ^ (64 * q) * x = rw (b, ← e, a) at (stream-set new q x within) in
      let t : 2 ^ (64 * q) * x ≡ 2 ^ (64 * q) * w + 2 ^ (64 * q) * 2 ^ place * (value % 2 ^ room) = rw v (omega arith) in
      let u : 2 ^ from ≡ 2 ^ (64 * q) * 2 ^ place = ap (λ n. 2 ^ n) (sym p) ∙ pow-add 2 (64 * q) place in
      rw u (omega arith)

  -- the value ends in the last word
  pub append_one : (w : ℕ) → 0 < from % 64 → w ≡ get_or words (from / 64) w → w < 2 ^ 64 → width ≤ 64 - from % 64 → stream (set words (from / 64) (bit_or w (value * 2 ^ (from % 64) % 2 ^ 64))) ≡ stream words + 2 ^ from * value
  append_one w pos e small h =
      let within : from / 64 < length words = omega arith in
      let m : value % 2 ^ (64 - from % 64) ≡ value = mod-eq_of_lt (lt_of_lt_of_le fits (pow-le-pow_right (lit< tt) h)) in
      filled words w pos within (get_or_read words (from / 64) w within e 0) refl small ∙ ap (λ x. stream words + 2 ^ from * x) m

  -- the value ends in the next word
  pub append_two : (new : List ℕ) (w : ℕ) → new ≡ words ++ value / 2 ^ (64 - from % 64) ∷ [] → 0 < from % 64 → w ≡ get_or words (from / 64) w → w < 2 ^ 64 → stream (set new (from / 64) (bit_or w (value * 2 ^ (from % 64) % 2 ^ 64))) ≡ stream words + 2 ^ from * value
  append_two new w n pos e small =
      let q = from / 64 in
      let place = from % 64 in
      let room = 64 - place in
      let within : q < length words = omega arith in
      let more : q < length (words ++ value / 2 ^ room ∷ []) = rw length-append (omega arith) in
      let high : value / 2 ^ room < 2 ^ 64 = lt_of_le_of_lt (shr_le value room) (lt_of_lt_of_le fits (pow-le-pow_right (lit< tt) narrow)) in
      let exact : value / 2 ^ room % 2 ^ 64 ≡ value / 2 ^ room = mod-eq_of_lt high in
      let p : stream (words ++ value / 2 ^ room ∷ []) ≡ stream words + 2 ^ (64 * length words) * (value / 2 ^ room) = rw exact at (stream_push words (value / 2 ^ room)) in
      let k : 64 * length words ≡ from + room = omega arith in
      let v : value / 2 ^ room * 2 ^ room + value % 2 ^ room ≡ value = shr_split value room in
      let f = filled (words ++ value / 2 ^ room ∷ []) w pos more (get_or_read words q w within e 0 ∙ sym (get_or_append_left words _ 0 q within)) (get_or_append_left words _ 0 q within) small in
      let r : 2 ^ (64 * length words) ≡ 2 ^ from * 2 ^ room = ap (λ n. 2 ^ n) k ∙ pow-add 2 from room in
      let t : 2 ^ from * value ≡ 2 ^ from * 2 ^ room * (value / 2 ^ room) + 2 ^ from * (value % 2 ^ room) = ap (λ x. 2 ^ from * x) (sym v) ∙ omega arith in
      rw n (f ∙ rw (p, r) (omega arith))

  -- the value is a word of its own
  pub append_none : from % 64 ≡ 0 → stream (words ++ value ∷ []) ≡ stream words + 2 ^ from * value
  append_none e =
      let small : value % 2 ^ 64 ≡ value = mod-eq_of_lt (lt_of_lt_of_le fits (pow-le-pow_right (lit< tt) narrow)) in
      let k : 64 * length words ≡ from = omega arith in
      rw (stream_push words value, small, k) refl

-- one field more
pub fields_more : (old new : List ℕ) (count width value : ℕ) → stream new ≡ stream old + 2 ^ (count * width) * value → stream old < 2 ^ (count * width) → value < 2 ^ width → fields_in new (count + 1) width ≡ fields_in old count width ++ value ∷ []
unfolding fields_in field_at
fields_more old new count width value e rest fits =
    let F : List ℕ → ℕ → ℕ = λ words i. stream words / 2 ^ (i * width) % 2 ^ width in
    let before : (i : ℕ) → i < count → F new i ≡ F old i = λ i h.
    let k = (count - i - 1) * width in
    let p : count * width ≡ i * width + (width + k) = times_split count i width h in
    let s : stream new / 2 ^ (i * width) ≡ stream old / 2 ^ (i * width) + 2 ^ (width + k) * value =
    ap (λ x. x / 2 ^ (i * width)) (e ∙ ap (λ n. stream old + 2 ^ n * value) p) ∙ shift_sum (stream old) value (i * width) (width + k) in
    ap (λ x. x % 2 ^ width) s ∙ mask_sum (stream old / 2 ^ (i * width)) value width k in
    let p0 : count * width ≡ count * width + 0 = omega arith in
    let z : stream old / 2 ^ (count * width) ≡ 0 = div-eq_of_lt rest in
    let s : stream new / 2 ^ (count * width) ≡ value =
    ap (λ x. x / 2 ^ (count * width)) e ∙ add-mul-div_left (stream old) value (pow_pos (count * width)) ∙ rw z (omega arith) in
    let last : F new count ≡ value = ap (λ x. x % 2 ^ width) s ∙ mod-eq_of_lt fits in
    tabulate_more count (F new) ∙ ap (λ xs. xs ++ F new count ∷ []) (tabulate_same count (F new) (F old) before) ∙ ap (λ x. tabulate count (F old) ++ x ∷ []) last

-- and the words that hold it
pub Packs-more : (old new : List ℕ) (count width value : ℕ) → Packs old count width → stream new ≡ stream old + 2 ^ (count * width) * value → value < 2 ^ width → count < 2147483647 → length new ≡ (count * width + width + 63) / 64 → Packs new (count + 1) width
Packs-more old new count width value h e fits room size =
    let p : (count + 1) * width ≡ count * width + width = omega arith in
    let u : 2 ^ (count * width + width) ≡ 2 ^ (count * width) * 2 ^ width = pow-add 2 (count * width) width in
    let a : 2 ^ (count * width) * value + 2 ^ (count * width) ≤ 2 ^ (count * width) * 2 ^ width = le_trans (omega arith) (mul-le-mul_left (2 ^ (count * width)) fits) in
    let small : stream old < 2 ^ (count * width) = h.rest in
    record {
      some = h.some;
      narrow = h.narrow;
      few = omega arith;
      size = rw p size;
      rest = rw (p, u, e) (omega arith);
    }

pub Packs-none : (width : ℕ) → 1 ≤ width → width ≤ 64 → Packs [] 0 width
Packs-none width some narrow =
    let z : 0 * width ≡ 0 = omega arith in
    record {
      some = some;
      narrow = narrow;
      few = omega arith;
      size = rw z refl;
      rest = rw (stream-zero, z) (lit< tt);
    }

pub fields-none : (words : List ℕ) (width : ℕ) → fields_in words 0 width ≡ []
unfolding fields_in tabulate
fields-none words width = refl

pub ruleset packed = (length-fields_in, get_or-fields_in, fields_more, Packs-more, Packs-none, fields-none)

-- a bit of the words is a bit of the number that they make
pub bit_of-field : (words : List ℕ) (i : ℕ) → bit_of words i ≡ eqb (field_at words i 1) 1
unfolding bit_of is_set
bit_of-field words i =
    let q = i / 64 in
    let r = i % 64 in
    let k = 64 - r in
    let j = 64 - r - 1 in
    let w = get_or words q 0 in
    let f : field_at words i 1 ≡ w % 2 ^ 64 / 2 ^ r % 2 ^ 1 = rw place_parts at (field_in_one words q r 1 (omega arith)) in
    let e : k + r ≡ 64 = omega arith in
    let e' : j + 1 ≡ k = omega arith in
    let g : w % 2 ^ 64 / 2 ^ r ≡ w / 2 ^ r % 2 ^ k = subst (λ n. w % 2 ^ n / 2 ^ r ≡ w / 2 ^ r % 2 ^ k) e (field_of w k r) in
    let h : w / 2 ^ r % 2 ^ k % 2 ^ 1 ≡ w / 2 ^ r % 2 ^ 1 = subst (λ n. w / 2 ^ r % 2 ^ n % 2 ^ 1 ≡ w / 2 ^ r % 2 ^ 1) e' (mod-mod-pow (w / 2 ^ r) j 1) in
    ap (λ x. eqb x 1) (sym (f ∙ ap (λ x. x % 2 ^ 1) g ∙ h))

-- words that hold fields of one bit hold these bits
pub Packs-bits : (words : List ℕ) (items : List ℕ) → Packs words (length items) 1 → fields_in words (length items) 1 ≡ items → HoldsBits words (map (λ x. eqb x 1) items)
unfolding field_at
Packs-bits words items h e = record {
  size = h.size ∙ rw length-map (omega arith);
  bit = λ i. ⊎_elim
      (λ (p : i < length items).
      let one : i * 1 ≡ i = omega arith in
      let f : get_or items i 0 ≡ field_at words (i * 1) 1 = ap (λ xs. get_or xs i 0) (sym e) ∙ get_or-fields_in words (length items) 1 i 0 p in
      bit_of-field words i ∙ ap (λ n. eqb (field_at words n 1) 1) (sym one) ∙ ap (λ x. eqb x 1) (sym f) ∙ sym (get_or-map (λ x. eqb x 1) items i 0 false p))
      (λ (p : length items ≤ i).
      let q : length items * 1 ≤ i = omega arith in
      let small : stream words < 2 ^ i = lt_of_lt_of_le h.rest (pow-le-pow_right (lit< tt) q) in
      let z : stream words / 2 ^ i ≡ 0 = div-eq_of_lt small in
      bit_of-field words i ∙ rw z refl ∙ sym (get_or_past (map (λ x. eqb x 1) items) i false (rw length-map p)))
      (cases_lt i (length items));
}

-- the words of a field are among the words
pub field_within : (i count width size : ℕ) → size ≡ (count * width + 63) / 64 → i < count → 1 ≤ width → i * width / 64 < size
field_within i count width size e h p =
    let a : i * width + width ≤ count * width = row_fits i width count width h (omega arith) in
    omega arith

pub field_within_next : (i count width size : ℕ) → size ≡ (count * width + 63) / 64 → i < count → 64 - i * width % 64 < width → i * width / 64 + 1 < size
field_within_next i count width size e h p =
    let a : i * width + width ≤ count * width = row_fits i width count width h (omega arith) in
    omega arith

-- words that hold these bits begin with them
pub bits_in-held : (words : List ℕ) (bits : List Bool) → HoldsBits words bits → bits_in words (length bits) ≡ bits
bits_in-held words bits h =
    same_lists _ _ (length-bits_in words (length bits))
    (λ k d p.
    let q : k < length bits = rw length-bits_in at p in
    get_or-bits_in words (length bits) k d q ∙ h.bit k ∙ get_or_default bits k false d q)
