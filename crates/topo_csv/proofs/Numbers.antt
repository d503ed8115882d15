-- The number that a field spells, and its readings.
use Rattle.std.proofs.Common.{◌≡◌, ℕ, ◌⊎◌, zero, suc, ◌^◌, ◌+◌, ◌-◌, ◌*◌, ◌<◌, ◌≤◌, inl, inr, true, false, ◌==◌, List, [], ◌∷◌, length, refl, sym, ap, ◌∙◌, arith, Option, Some, None, nat_lt, leb, ℤ, pos, negsuc, option_map, ◌-ℤ◌, to_z, of_z, w64, ltb, get_or}
use Rattle.std.specs.Prelude.{option_and_then, neg_ℤ}
use Rattle.std.specs.Char.{is_ascii_digit}
use Rattle.std.specs.Option.{option_or}
use Rattle.std.specs.List.{slice_get}
use Rattle.std.proofs.Math.Facts.{to_z-of_z, to_z_pos}
use Rattle.std.proofs.Math.IntN.{+ℤ_idl}
use Rattle.std.proofs.lemmas.Int.{fits_signed_from_abs}
use Rattle.std.proofs.lemmas.Option.{slice_get_past, slice_get_read}
use Rattle.topo_base.specs.SignedEdge.{IsSignedEdge}
use Rattle.topo_base.proofs.Spelled.{signed_within}
use Rattle.std.proofs.lemmas.Bool.{cases_Bool, le-leb, ne_eqb}
use Rattle.std.proofs.lemmas.Bool.Decides.{nat_tests}
use Rattle.topo_base.specs.Spelling.{digits_behind, id_number, in_range, plain_decimal, positive_number, signed_number}
use Rattle.topo_base.specs.declared.id.TheConstants.{LARGEST_ID}
use Rattle.topo_csv.specs.Numbers.{digits_behind_sign, spelled_number}

-- an id from 1 on is one from 0 on other than 0
abbrev above_zero : Option ℕ → Option ℕ
above_zero None = None
above_zero (Some zero) = None
above_zero (Some (suc n)) = Some (suc n)

ranges : (o : Option ℕ) → option_and_then (in_range 1) o ≡ above_zero (option_and_then (in_range 0) o)
ranges None = refl
ranges (Some zero) = refl
ranges (Some (suc n)) = rw (le-leb 0 (suc n) (omega arith), le-leb 1 (suc n) (omega arith)) (elim (cases_Bool (leb (suc n) LARGEST_ID)) [ inl e ↦ rw e refl | inr e ↦ rw e refl ])

positive_of : (text : List ℕ) → positive_number text ≡ above_zero (id_number text)
positive_of text = ranges (plain_decimal text)

-- a sign is no digit
no_sign : (bytes : List ℕ) → id_number (45 ∷ bytes) ≡ None
unfolding digits_behind
no_sign bytes = elim (cases_Bool (length (45 ∷ bytes) == 0)) [
  | inl e ↦ rw e refl
  | inr e ↦ elim (cases_Bool (nat_lt 1 (length (45 ∷ bytes)))) [ inl f ↦ rw (e, f) refl | inr f ↦ rw (e, f) refl ]
]

-- the number of an edge that is walked back
abbrev back : ℕ → ℤ
back n = neg_ℤ (pos n)

-- an id and a signed edge that one text spells: the same number, or the latter alone, behind a sign
abbrev Agree : Option ℕ → Option ℤ → Type 0
Agree i s = (s ≡ option_map pos (above_zero i)) ⊎ ((i ≡ None) × (o : Option ℕ) × (s ≡ option_map back (above_zero o)))

agree : (text : List ℕ) → Agree (id_number text) (signed_number text)
agree [] = inl refl
agree (b ∷ bytes) = elim (cases_Bool (b == 45)) [
  | inl e ↦
      let is : b ≡ 45 = grind (arith, nat_tests) in
      let none : id_number (b ∷ bytes) ≡ None = ap (λ c. id_number (c ∷ bytes)) is ∙ no_sign bytes in
      let signed : signed_number (b ∷ bytes) ≡ option_map back (above_zero (id_number bytes)) = rw e (ap (option_map back) (positive_of bytes)) in
      inr (none, id_number bytes, signed)
  | inr e ↦ inl (rw e (ap (option_map pos) (positive_of (b ∷ bytes))))
]

-- only what an id is spells no number below zero
id_known : (i : Option ℕ) (s : Option ℤ) (n : ℕ) → Agree i s → Some (pos n) ≡ option_or (option_map pos i) s → Some n ≡ i
id_known (Some m) s n a e = let same : n ≡ m = cc in ap Some same
id_known None s n (inl a) e = let no : ◌≡◌ {A = Option ℤ} (Some (pos n)) None = e ∙ a in cc
id_known None s n (inr (z, None, a)) e = let no : ◌≡◌ {A = Option ℤ} (Some (pos n)) None = e ∙ a in cc
id_known None s n (inr (z, Some zero, a)) e = let no : ◌≡◌ {A = Option ℤ} (Some (pos n)) None = e ∙ a in cc
id_known None s n (inr (z, Some (suc m), a)) e = let no : ◌≡◌ {A = Option ℤ} (Some (pos n)) (Some (negsuc m)) = e ∙ a in cc

signed_back : (i : Option ℕ) (s : Option ℤ) (k : ℕ) → Some (negsuc k) ≡ option_or (option_map pos i) s → s ≡ Some (negsuc k)
signed_back (Some m) s k e = let no : ◌≡◌ {A = Option ℤ} (Some (negsuc k)) (Some (pos m)) = e in cc
signed_back None s k e = sym e

-- the signed edge is the number that is spelled, where it isn't 0
signed_known : (i : Option ℕ) (s o : Option ℤ) → Agree i s → o ≡ option_or (option_map pos i) s → (o ≡ Some (pos 0) → ⊥) → o ≡ s
signed_known None s o a e other = e
signed_known (Some zero) s o a e other = absurd (other e)
signed_known (Some (suc n)) s o (inl a) e other = e ∙ sym a
signed_known (Some (suc n)) s o (inr (z, more, a)) e other = let no : ◌≡◌ {A = Option ℕ} (Some (suc n)) None = z in cc

signed_zero : (i : Option ℕ) (s : Option ℤ) → Agree i s → Some (pos 0) ≡ option_or (option_map pos i) s → None ≡ s
signed_zero (Some zero) s (inl a) e = sym a
signed_zero (Some zero) s (inr (z, more, a)) e = let no : ◌≡◌ {A = Option ℕ} (Some zero) None = z in cc
signed_zero (Some (suc n)) s a e = let no : ◌≡◌ {A = Option ℤ} (Some (pos 0)) (Some (pos (suc n))) = e in cc
signed_zero None s a e = let no : ◌≡◌ {A = Option ℕ} (Some 0) None = id_known None s 0 a e in cc

-- the signed edge, by the number that a text spells
pub signed_of : (text : List ℕ) (o : Option ℤ) (z : ℤ) → o ≡ spelled_number text → o ≡ Some z → (of_z w64 z ≡ 0 → ⊥) → o ≡ signed_number text
signed_of text o z e is other = signed_known (id_number text) (signed_number text) o (agree text) e (λ nought. let same : z ≡ pos 0 = let both = sym is ∙ nought in cc in other (ap (of_z w64) same))

pub no_signed_0 : (text : List ℕ) (z : ℤ) → Some z ≡ spelled_number text → of_z w64 z ≡ 0 → None ≡ signed_number text
no_signed_0 text (pos zero) e nought = signed_zero (id_number text) (signed_number text) (agree text) e
no_signed_0 text (pos (suc n)) e nought = absurd (omega arith)
no_signed_0 text (negsuc k) e nought =
    let signed = signed_back (id_number text) (signed_number text) k e in
    let high : suc k ≤ LARGEST_ID = let edge : IsSignedEdge (negsuc k) = signed_within text (negsuc k) signed in grind (arith, nat_tests) in
    absurd (omega arith)

-- minus a number
pub negated : (m : ℕ) → m < 10 ^ 18 → to_z w64 (of_z w64 (pos 0 -ℤ to_z w64 m)) ≡ back m
negated zero small = refl
negated (suc m) small =
    let positive : to_z w64 (suc m) ≡ pos (suc m) = to_z_pos w64 (omega arith) in
    ap (λ z. to_z w64 (of_z w64 (pos 0 -ℤ z))) positive ∙ ap (λ z. to_z w64 (of_z w64 z)) (+ℤ_idl (negsuc m)) ∙ to_z-of_z (fits_signed_from_abs w64 (negsuc m) (omega arith))

-- the byte behind the first, or none
pub first_there : (text : List ℕ) (first : ℕ) → true ≡ ltb 1 (length text) → first ≡ get_or text 1 first → slice_get text 1 ≡ Some first
first_there text first lt is = slice_get_read text (length text) 1 first refl (grind (arith, nat_tests)) is

pub none_there : (text : List ℕ) → false ≡ ltb 1 (length text) → slice_get text 1 ≡ None
none_there text lt = slice_get_past text 1 (grind (arith, nat_tests))

within : (n : ℕ) → 1 ≤ n → n < 10 ^ 18 → in_range 1 n ≡ Some n
within n low high = rw (le-leb 1 n low, le-leb n LARGEST_ID (omega arith)) refl

-- digits with no leading zero make a number from 1 on
starts_above : (n : ℕ) (text : List ℕ) (m : ℕ) → 1 ≤ n → digits_behind n text ≡ Some m → 1 ≤ m
unfolding digits_behind
starts_above n [] m low h = let same : n ≡ m = cc in omega arith
starts_above n (c ∷ text) m low h = elim (cases_Bool (is_ascii_digit c)) [
  | inl e ↦ starts_above (10 * n + (c - 48)) text m (omega arith) (rw e at h)
  | inr e ↦ let no : ◌≡◌ {A = Option ℕ} None (Some m) = rw e at h in cc
]

first_above : (b : ℕ) (text : List ℕ) (m : ℕ) → (b == 48) ≡ false → digits_behind 0 (b ∷ text) ≡ Some m → 1 ≤ m
unfolding digits_behind
first_above b text m other h = elim (cases_Bool (is_ascii_digit b)) [
  | inl e ↦ let low : 1 ≤ 10 * 0 + (b - 48) = grind (arith, nat_tests) in starts_above (10 * 0 + (b - 48)) text m low (rw e at h)
  | inr e ↦ let no : ◌≡◌ {A = Option ℕ} None (Some m) = rw e at h in cc
]

plain_first : (b : ℕ) (text : List ℕ) → (b == 48) ≡ false → plain_decimal (b ∷ text) ≡ digits_behind 0 (b ∷ text)
plain_first b text other = elim (cases_Bool (length (b ∷ text) == 0)) [
  | inl e ↦ absurd (grind (arith, nat_tests))
  | inr e ↦ elim (cases_Bool (nat_lt 1 (length (b ∷ text)))) [ inl f ↦ rw (e, f, other) refl | inr f ↦ rw (e, f) refl ]
]

positive_first : (b : ℕ) (text : List ℕ) (m : ℕ) → (b == 48) ≡ false → digits_behind 0 (b ∷ text) ≡ Some m → m < 10 ^ 18 → positive_number (b ∷ text) ≡ Some m
positive_first b text m other h small = ap (option_and_then (in_range 1)) (plain_first b text other ∙ h) ∙ within m (first_above b text m other h) small

-- behind a sign
spelled_behind : (b : ℕ) (text : List ℕ) → (b == 45) ≡ true → spelled_number (b ∷ text) ≡ option_map back (positive_number text)
spelled_behind b text e =
    let is : b ≡ 45 = grind (arith, nat_tests) in
    let none : id_number (b ∷ text) ≡ None = ap (λ c. id_number (c ∷ text)) is ∙ no_sign text in
    ap (λ i. option_or (option_map pos i) (signed_number (b ∷ text))) none ∙ rw e refl

no_zero_ahead : (text : List ℕ) → positive_number (48 ∷ text) ≡ None
unfolding digits_behind
no_zero_ahead [] = refl
no_zero_ahead (b ∷ text) = elim (cases_Bool (length (48 ∷ b ∷ text) == 0)) [
  | inl e ↦ rw e refl
  | inr e ↦
      let two : nat_lt 1 (length (48 ∷ b ∷ text)) ≡ true = grind (arith, nat_tests) in
      rw (e, two) refl
]

pub below_zero_is : (text : List ℕ) (m first : ℕ) → digits_behind_sign text ≡ Some m → m < 10 ^ 18 → slice_get text 1 ≡ Some first → (first ≡ 48 → ⊥) → Some (back m) ≡ spelled_number text
below_zero_is [] m first h small at other = let no : ◌≡◌ {A = Option ℕ} None (Some m) = h in cc
below_zero_is (b ∷ []) m first h small at other = let no : ◌≡◌ {A = Option ℕ} None (Some first) = at in cc
below_zero_is (b ∷ c ∷ text) m first h small at other = elim (cases_Bool (b == 45)) [
  | inl e ↦
      let same : c ≡ first = cc in
      let nonzero : (c == 48) ≡ false = ap (λ d. d == 48) same ∙ ne_eqb first 48 other in
      sym (spelled_behind b (c ∷ text) e ∙ ap (option_map back) (positive_first c text m nonzero (rw e at h) small))
  | inr e ↦ let no : ◌≡◌ {A = Option ℕ} None (Some m) = rw e at h in cc
]

pub sign_alone : (text : List ℕ) (m : ℕ) → digits_behind_sign text ≡ Some m → slice_get text 1 ≡ None → None ≡ spelled_number text
sign_alone [] m h at = let no : ◌≡◌ {A = Option ℕ} None (Some m) = h in cc
sign_alone (b ∷ []) m h at = elim (cases_Bool (b == 45)) [
  | inl e ↦ sym (spelled_behind b [] e)
  | inr e ↦ let no : ◌≡◌ {A = Option ℕ} None (Some m) = rw e at h in cc
]
sign_alone (b ∷ c ∷ text) m h at = let no : ◌≡◌ {A = Option ℕ} (Some c) None = at in cc

pub zero_behind_sign : (text : List ℕ) (m first : ℕ) → digits_behind_sign text ≡ Some m → slice_get text 1 ≡ Some first → first ≡ 48 → None ≡ spelled_number text
zero_behind_sign [] m first h at lead = let no : ◌≡◌ {A = Option ℕ} None (Some m) = h in cc
zero_behind_sign (b ∷ []) m first h at lead = let no : ◌≡◌ {A = Option ℕ} None (Some first) = at in cc
zero_behind_sign (b ∷ c ∷ text) m first h at lead = elim (cases_Bool (b == 45)) [
  | inl e ↦
      let same : c ≡ first = cc in
      sym (spelled_behind b (c ∷ text) e ∙ ap (option_map back) (ap (λ d. positive_number (d ∷ text)) (same ∙ lead) ∙ no_zero_ahead text))
  | inr e ↦ let no : ◌≡◌ {A = Option ℕ} None (Some m) = rw e at h in cc
]
