-- Digits that are read one after another, and a sign in front of them.
use Rattle.std.proofs.Common.{◌≡◌, ℕ, zero, suc, ◌^◌, ◌+◌, ◌-◌, ◌*◌, ◌<◌, ◌≤◌, inl, inr, true, false, ◌==◌, List, [], ◌∷◌, ◌++◌, length, take, drop, get_or, refl, sym, ap, ◌∙◌, arith, Bool, Option, Some, None, nat_lt, ℤ, pos, negsuc, ◌-ℤ◌, to_z, of_z, w64, option_map, add-one, min}
use Rattle.std.specs.Prelude.{option_and_then, neg_ℤ, ◌≢◌, slice_index, Result, Ok, Err, unsigned_abs}
use Rattle.std.specs.List.{list_all}
use Rattle.std.specs.Result.{OkIff, result_ok}
use Rattle.std.specs.Char.{is_ascii_digit}
use Rattle.std.proofs.Math.Facts.{to_z-of_z}
use Rattle.std.proofs.Math.IntN.{+ℤ_idl}
use Rattle.std.proofs.lemmas.Int.{fits_signed_from_abs}
use Rattle.std.proofs.Math.Nat.{pow-le-pow_right, pow-succ'}
use Rattle.std.proofs.lemmas.Bool.{cases_Bool, le-leb, ne_eqb}
use Rattle.std.proofs.lemmas.Bool.Decides.{nat_tests}
use Rattle.std.proofs.lemmas.List.{take_all, take_more, take_rest}
use Rattle.std.proofs.lemmas.List.Folds.{list_all_at}
use Rattle.topo_base.specs.Spelling.{digits_behind, in_range, plain_decimal, positive_number, signed_number}
use Rattle.topo_base.specs.declared.id.TheConstants.{LARGEST_ID}

pub none_yet : digits_behind 0 [] ≡ Some 0
unfolding digits_behind
none_yet = refl

-- one digit more
digits_more : (n : ℕ) (text : List ℕ) (m b : ℕ) → digits_behind n text ≡ Some m → is_ascii_digit b ≡ true → digits_behind n (text ++ b ∷ []) ≡ Some (10 * m + (b - 48))
unfolding digits_behind
digits_more n [] m b h digit = let same : n ≡ m = cc in rw (digit, same) refl
digits_more n (c ∷ text) m b h digit =
    elim (cases_Bool (is_ascii_digit c)) [
      | inl e ↦ rw e (digits_more (10 * n + (c - 48)) text m b (rw e at h) digit)
      | inr e ↦ let no : ◌≡◌ {A = Option ℕ} None (Some m) = rw e at h in cc
    ]

pub digit_more : (bytes : List ℕ) (len n : ℕ) → len < length bytes → digits_behind 0 (take len bytes) ≡ Some n → is_ascii_digit (get_or bytes len 0) ≡ true
    → digits_behind 0 (take (len + 1) bytes) ≡ Some (10 * n + (get_or bytes len 0 - 48))
digit_more bytes len n lt h digit = ap (digits_behind 0) (take_more bytes len 0 lt) ∙ digits_more 0 (take len bytes) n (get_or bytes len 0) h digit

-- bytes that are not all digits spell no number
pub none_spelled : (n : ℕ) (text : List ℕ) → list_all is_ascii_digit text ≡ false → digits_behind n text ≡ None
unfolding digits_behind
none_spelled n [] h = let no : ◌≡◌ {A = Bool} true false = h in cc
none_spelled n (c ∷ text) h =
    elim (cases_Bool (is_ascii_digit c)) [ inl e ↦ rw e (none_spelled (10 * n + (c - 48)) text (rw e at h)) | inr e ↦ rw e refl ]

-- what was told of all bytes, one after another
pub told_of_all : (bytes : List ℕ) (k : ℕ) (told : Bool) → length bytes ≤ k → told ≡ list_all is_ascii_digit (take k bytes) → list_all is_ascii_digit bytes ≡ told
told_of_all bytes k told le h = sym (h ∙ ap (list_all is_ascii_digit) (take_all k bytes le))

pub digit_at : (bytes : List ℕ) (k : ℕ) → list_all is_ascii_digit bytes ≡ true → k < length bytes → is_ascii_digit (get_or bytes k 0) ≡ true
digit_at bytes k h lt =
    elim (cases_Bool (is_ascii_digit (get_or bytes k 0))) [
      | inl e ↦ e
      | inr e ↦ absurd (let no : ◌≡◌ {A = Bool} true false = sym h ∙ list_all_at is_ascii_digit bytes k 0 lt e in cc)
    ]

-- what is known of a place among the first nineteen bytes
pub record IsEarly (bytes : List ℕ) (len : ℕ) : Type 0 where
  pub low : len ≤ 18
  pub inside : len < length bytes

pub early : (bytes : List ℕ) (few len : ℕ) → few ≡ min (length bytes) 19 → len < few → IsEarly bytes len
early bytes few len least lt = record { low = omega arith; inside = omega arith }

pub digit_value : (b : ℕ) → is_ascii_digit b ≡ true → b - 48 ≤ 9
digit_value b h = grind (arith, nat_tests)

pub digit_least : (b : ℕ) → is_ascii_digit b ≡ true → 48 ≤ b
digit_least b h = grind (arith, nat_tests)

-- so many digits make no greater number
pub below_many : (len n most : ℕ) → n < 10 ^ len → len ≤ most → n < 10 ^ most
below_many len n most small le = let more : 10 ^ len ≤ 10 ^ most = pow-le-pow_right (omega arith) le in omega arith

pub ten_times : (len n d : ℕ) → n < 10 ^ len → d ≤ 9 → 10 * n + d < 10 ^ (len + 1)
ten_times len n d small nine = let more : 10 ^ (len + 1) ≡ 10 * 10 ^ len = ap (λ k. 10 ^ k) (add-one len) ∙ pow-succ' 10 len in omega arith

-- where the first digit is no zero
plain : (b : ℕ) (text : List ℕ) → (b == 48) ≡ false → plain_decimal (b ∷ text) ≡ digits_behind 0 (b ∷ text)
plain b text other =
    elim (cases_Bool (length (b ∷ text) == 0)) [
      | inl e ↦ absurd (grind (arith, nat_tests))
      | inr e ↦ elim (cases_Bool (nat_lt 1 (length (b ∷ text)))) [ inl f ↦ rw (e, f, other) refl | inr f ↦ rw (e, f) refl ]
    ]

within : (n : ℕ) → 1 ≤ n → n < 10 ^ 18 → in_range 1 n ≡ Some n
within n low high = rw (le-leb 1 n low, le-leb n LARGEST_ID (omega arith)) refl

-- fewer than nineteen digits, of which the first is no zero, spell an id
pub positive : (bytes : List ℕ) (len n : ℕ) → digits_behind 0 (take len bytes) ≡ Some n → n < 10 ^ len → len ≤ 18 → 0 < n → get_or bytes 0 0 ≢ 48 → positive_number (take len bytes) ≡ Some n
positive bytes zero n spells small few some other = absurd (omega (arith, small))
positive [] (suc len) n spells small few some other = absurd (let same : 0 ≡ n = (let e = sym none_yet ∙ spells in cc) in omega arith)
positive (b ∷ bytes) (suc len) n spells small few some other =
    ap (option_and_then (in_range 1)) (plain b (take len bytes) (ne_eqb b 48 other) ∙ spells)
    ∙ within n (omega arith) (below_many (suc len) n 18 small few)

-- a sign in front of digits
in_front : (text : List ℕ) (n : ℕ) → positive_number text ≡ Some n → signed_number (45 ∷ text) ≡ Some (neg_ℤ (pos n))
in_front text n spelled = ap (option_map (λ m. neg_ℤ (pos m))) spelled

-- the bytes behind the first one
rest_of : (b : ℕ) (bytes : List ℕ) → take (length (b ∷ bytes) - 1) (drop 1 (b ∷ bytes)) ≡ bytes
rest_of b bytes = take_rest (b ∷ bytes) 1

pub feed_behind : (bytes : List ℕ) (len : ℕ) → 1 ≤ length bytes → slice_index (take (length bytes - 1) (drop 1 bytes)) len ≡ 10 → slice_index bytes (len + 1) ≡ 10
feed_behind [] len some feed = absurd (omega (arith, some))
feed_behind (b ∷ bytes) len some feed = rw (add-one len) (sym (ap (λ text. slice_index text len) (rest_of b bytes)) ∙ feed)

pub lead_kept : (bytes : List ℕ) (len n : ℕ) → 1 ≤ length bytes → slice_index bytes 0 ≡ 45 → positive_number (take len (take (length bytes - 1) (drop 1 bytes))) ≡ Some n
    → signed_number (take (len + 1) bytes) ≡ Some (neg_ℤ (pos n))
lead_kept [] len n some sign spelled = absurd (omega (arith, some))
lead_kept (b ∷ bytes) len n some sign spelled =
    rw (add-one len, sign) (in_front (take len bytes) n (sym (ap (λ text. positive_number (take len text)) (rest_of b bytes)) ∙ spelled))

-- a number that becomes a signed one, and is negated
pub same_number : {E : Type 0} (r : Result ℤ E) (P : Type 0) (v z : ℤ) → OkIff r P v → Some z ≡ result_ok r → z ≡ v
same_number (Ok x) P v z h is = let same : z ≡ x = cc in same ∙ h.1
same_number (Err e) P v z h is = let no : ◌≡◌ {A = Option ℤ} (Some z) None = is in cc

kept : (z : ℤ) → unsigned_abs z ≤ LARGEST_ID → to_z w64 (of_z w64 z) ≡ z
kept z small = to_z-of_z (fits_signed_from_abs w64 z (omega (arith, small)))

pub negated : (n : ℕ) (z : ℤ) → n ≤ LARGEST_ID → z ≡ pos n → to_z w64 (of_z w64 (pos 0 -ℤ to_z w64 (of_z w64 z))) ≡ neg_ℤ (pos n)
negated zero z high is = rw is refl
negated (suc n) z high is =
    ap (λ x. to_z w64 (of_z w64 (pos 0 -ℤ x))) (ap (λ x. to_z w64 (of_z w64 x)) is ∙ kept (pos (suc n)) high)
    ∙ ap (λ x. to_z w64 (of_z w64 x)) (+ℤ_idl (negsuc n))
    ∙ kept (negsuc n) high
