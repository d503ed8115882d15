-- Plain decimal, and the text that is printed of a number.
use Rattle.std.proofs.Common.{◌≡◌, ℕ, zero, suc, ◌+◌, ◌*◌, ◌-◌, ◌<◌, ◌≤◌, ◌^◌, true, false, ◌&&◌, List, [], ◌∷◌, length, get_or, Option, Some, None, refl, sym, ap, subst, ◌∙◌, arith, leb, inl, inr, decimal}
use Rattle.std.specs.Prelude.{ℤ, pos, negsuc, neg_ℤ, option_and_then, option_map, nat_le, ◌==◌, if◌then◌else◌}
use Rattle.std.specs.Char.{is_ascii_digit, digit_value}
use Rattle.std.specs.Fmt.{signed_decimal}
use Rattle.std.specs.Str.Parse.{AllDigits, digits_value, digits_value_after}
use Rattle.std.proofs.lemmas.Bool.{cases_Bool, le-leb}
use Rattle.std.proofs.lemmas.Bool.Decides.{nat_tests}
use Rattle.std.proofs.lemmas.Str.{digit_value_digit}
use Rattle.std.proofs.lemmas.Str.Parse.{digit_from_value, numerals_by_value, tells_digits}
use Rattle.std.proofs.lemmas.Fmt.{decimal_is_IsNumeral, decimal-digits_value, first_decimal, decimal_digit}
use Rattle.topo_base.specs.Spelling.{digits_behind, plain_decimal, in_range, id_number, positive_number, signed_number}
use Rattle.topo_base.specs.SignedEdge.{IsSignedEdge}
use Rattle.topo_base.specs.declared.id.TheConstants.{LARGEST_ID}

is_digit_value : (c : ℕ) → digit_value c < 10 → is_ascii_digit c ≡ true
is_digit_value c h = let r = digit_from_value c h in grind (arith, nat_tests)

digit_is : (c : ℕ) → digit_value c < 10 → c - 48 ≡ digit_value c
digit_is c h = omega (arith, digit_value_digit c (digit_from_value c h))

digit_value_of : (c : ℕ) → is_ascii_digit c ≡ true → digit_value c < 10
digit_value_of c h = grind (arith, nat_tests)

-- digits have the value that std gives them
pub behind_all : (ds : List ℕ) (n : ℕ) → AllDigits 10 ds → digits_behind n ds ≡ Some (digits_value_after 10 n ds)
unfolding digits_behind
behind_all [] n all = refl
behind_all (c ∷ ds) n all =
    let same : 10 * n + (c - 48) ≡ n * 10 + digit_value c = omega (arith, digit_is c all.0) in
    rw (is_digit_value c all.0, same) (behind_all ds (n * 10 + digit_value c) all.1)

-- what has a value is digits
pub all_behind : (ds : List ℕ) (n m : ℕ) → digits_behind n ds ≡ Some m → AllDigits 10 ds
unfolding digits_behind
all_behind [] n m e = tt
all_behind (c ∷ ds) n m e =
    elim (cases_Bool (is_ascii_digit c)) [ inl h ↦ (digit_value_of c h, all_behind ds (10 * n + (c - 48)) m (rw h at e)) | inr h ↦ let f = rw h at e in cc ]

text_of_digits : (bytes : List ℕ) (n : ℕ) → n ≤ LARGEST_ID → 0 < length bytes → (get_or bytes 0 0 ≡ 48 → length bytes ≡ 1) → digits_behind 0 bytes ≡ Some n → bytes ≡ decimal n
text_of_digits bytes n small some lead e =
    let all = all_behind bytes 0 n e in
    let b = behind_all bytes 0 all in
    let v : digits_value 10 bytes ≡ n = cc in
    sym (decimal-digits_value (numerals_by_value _ tells_digits) bytes all some lead (omega arith)) ∙ ap decimal v

longer : (c d : ℕ) (bytes : List ℕ) → plain_decimal (c ∷ d ∷ bytes) ≡ (if c == 48 then None else digits_behind 0 (c ∷ d ∷ bytes))
longer c d bytes =
    let nonzero : (suc (suc (length bytes)) == 0) ≡ false = grind (arith, nat_tests) in
    let two : leb 2 (suc (suc (length bytes))) ≡ true = le-leb 2 (suc (suc (length bytes))) (omega arith) in
    rw (nonzero, two) refl

-- a plain decimal is the text of its number
pub plain_text : (bytes : List ℕ) (n : ℕ) → n ≤ LARGEST_ID → plain_decimal bytes ≡ Some n → bytes ≡ decimal n
plain_text [] n small e = cc
plain_text (c ∷ []) n small e = text_of_digits (c ∷ []) n small (omega arith) (λ _. refl) e
plain_text (c ∷ d ∷ bytes) n small e =
    let f = sym (longer c d bytes) ∙ e in
    elim (cases_Bool (c == 48)) [ inl h ↦ let g = rw h at f in cc | inr h ↦ text_of_digits (c ∷ d ∷ bytes) n small (omega arith) (λ z. absurd (grind (arith, nat_tests))) (rw h at f) ]

plain_of : (bytes : List ℕ) (n : ℕ) → 0 < length bytes → (get_or bytes 0 0 ≡ 48 → length bytes ≡ 1) → digits_behind 0 bytes ≡ Some n → plain_decimal bytes ≡ Some n
plain_of [] n some lead e = absurd (omega arith)
plain_of (c ∷ []) n some lead e = e
plain_of (c ∷ d ∷ bytes) n some lead e =
    longer c d bytes
    ∙ elim (cases_Bool (c == 48)) [ inl h ↦ absurd (let z : c ≡ 48 = grind (arith, nat_tests) in omega (arith, lead z)) | inr h ↦ rw h e ]

no_leading_zero : (n : ℕ) → n < 2 ^ 64 → get_or (decimal n) 0 0 ≡ 48 → length (decimal n) ≡ 1
no_leading_zero zero small e = ap length (decimal_digit 0 (omega arith))
no_leading_zero (suc n) small e = absurd (omega (arith, first_decimal (suc n) (omega arith) small))

-- the text of a number is a plain decimal
pub plain_reads : (n : ℕ) → n ≤ LARGEST_ID → plain_decimal (decimal n) ≡ Some n
plain_reads n small =
    let k = decimal_is_IsNumeral n (omega arith) in
    plain_of (decimal n) n k.0.0 (no_leading_zero n (omega arith)) (behind_all (decimal n) 0 k.0.1 ∙ ap Some k.1)

record Ranged (least n : ℕ) (o : Option ℕ) : Type 0 where
  some : o ≡ Some n
  low : least ≤ n
  high : n ≤ LARGEST_ID

ranged : (least n : ℕ) (o : Option ℕ) → option_and_then (in_range least) o ≡ Some n → Ranged least n o
ranged least n None e = cc
ranged least n (Some m) e =
    elim (cases_Bool (nat_le least m && nat_le m LARGEST_ID)) [
      | inl h ↦ let f : m ≡ n = let g = rw h at e in cc in record { some = ap Some f; low = grind (arith, nat_tests); high = grind (arith, nat_tests) }
      | inr h ↦ let g = rw h at e in cc
    ]

within : (least n : ℕ) → least ≤ n → n ≤ LARGEST_ID → in_range least n ≡ Some n
within least n low high = rw (le-leb least n low, le-leb n LARGEST_ID high) refl

pub id_text : (bytes : List ℕ) (n : ℕ) → id_number bytes ≡ Some n → bytes ≡ decimal n
id_text bytes n e = let r = ranged 0 n (plain_decimal bytes) e in plain_text bytes n r.high r.some

pub id_within : (bytes : List ℕ) (n : ℕ) → id_number bytes ≡ Some n → n ≤ LARGEST_ID
id_within bytes n e = (ranged 0 n (plain_decimal bytes) e).high

pub id_reads : (n : ℕ) → n ≤ LARGEST_ID → id_number (decimal n) ≡ Some n
id_reads n high = ap (option_and_then (in_range 0)) (plain_reads n high) ∙ within 0 n (omega arith) high

pub positive_text : (bytes : List ℕ) (n : ℕ) → positive_number bytes ≡ Some n → bytes ≡ decimal n
positive_text bytes n e = let r = ranged 1 n (plain_decimal bytes) e in plain_text bytes n r.high r.some

pub positive_within : (bytes : List ℕ) (n : ℕ) → positive_number bytes ≡ Some n → (1 ≤ n) × (n ≤ LARGEST_ID)
positive_within bytes n e = let r = ranged 1 n (plain_decimal bytes) e in (r.low, r.high)

pub positive_reads : (n : ℕ) → 1 ≤ n → n ≤ LARGEST_ID → positive_number (decimal n) ≡ Some n
positive_reads n low high = ap (option_and_then (in_range 1)) (plain_reads n high) ∙ within 1 n low high

is_signed_edge_back : (n : ℕ) → suc n ≤ LARGEST_ID → IsSignedEdge (negsuc n)
is_signed_edge_back n high = grind (arith, nat_tests)

is_signed_edge_forward : (n : ℕ) → 1 ≤ n → n ≤ LARGEST_ID → IsSignedEdge (pos n)
is_signed_edge_forward n low high = grind (arith, nat_tests)

record Spelled (bytes : List ℕ) (d : ℤ) : Type 0 where
  text : bytes ≡ signed_decimal d
  is_signed_edge : IsSignedEdge d

spelled : (bytes : List ℕ) (d : ℤ) → signed_number bytes ≡ Some d → Spelled bytes d
spelled [] d e = cc
spelled (b ∷ bytes) d e =
    elim (cases_Bool (b == 45)) [
      | inl h ↦ let z : b ≡ 45 = grind (arith, nat_tests) in back (positive_number bytes) z refl (rw h at e)
      | inr h ↦ forward (positive_number (b ∷ bytes)) refl (rw h at e)
    ]
  where
    back : (o : Option ℕ) → b ≡ 45 → positive_number bytes ≡ o → option_map (λ n. neg_ℤ (pos n)) o ≡ Some d → Spelled (b ∷ bytes) d
    back None z is e = cc
    back (Some zero) z is e = absurd (omega (arith, positive_within bytes zero is))
    back (Some (suc n)) z is e =
        let same : negsuc n ≡ d = cc in
        let t = positive_text bytes (suc n) is in
        subst (Spelled (b ∷ bytes)) same (record { text = cc; is_signed_edge = is_signed_edge_back n (positive_within bytes (suc n) is).1 })

    forward : (o : Option ℕ) → positive_number (b ∷ bytes) ≡ o → option_map pos o ≡ Some d → Spelled (b ∷ bytes) d
    forward None is e = cc
    forward (Some n) is e =
        let same : pos n ≡ d = cc in
        let r = positive_within (b ∷ bytes) n is in
        subst (Spelled (b ∷ bytes)) same (record { text = positive_text (b ∷ bytes) n is; is_signed_edge = is_signed_edge_forward n r.0 r.1 })

pub signed_text : (bytes : List ℕ) (d : ℤ) → signed_number bytes ≡ Some d → bytes ≡ signed_decimal d
signed_text bytes d e = (spelled bytes d e).text

pub signed_within : (bytes : List ℕ) (d : ℤ) → signed_number bytes ≡ Some d → IsSignedEdge d
signed_within bytes d e = (spelled bytes d e).is_signed_edge

-- digits begin with no '-'
no_minus : (bytes : List ℕ) → AllDigits 10 bytes → signed_number bytes ≡ option_map pos (positive_number bytes)
no_minus [] all = refl
no_minus (b ∷ bytes) all =
    let r = digit_from_value b all.0 in
    let h : (b == 45) ≡ false = grind (arith, nat_tests) in
    rw h refl

pub signed_reads : (d : ℤ) → IsSignedEdge d → signed_number (signed_decimal d) ≡ Some d
signed_reads (pos n) h =
    let low : 1 ≤ n = grind (arith, nat_tests) in
    let high : n ≤ LARGEST_ID = grind (arith, nat_tests) in
    no_minus (decimal n) (decimal_is_IsNumeral n (omega arith)).0.1 ∙ ap (option_map pos) (positive_reads n low high)
signed_reads (negsuc n) h =
    let high : suc n ≤ LARGEST_ID = grind (arith, nat_tests) in
    ap (option_map (λ m. neg_ℤ (pos m))) (positive_reads (suc n) (omega arith) high)
