-- The records of bytes without quotes, cut field by field.
use Rattle.std.proofs.Common.{◌≡◌, ℕ, zero, suc, ◌+◌, ◌-◌, ◌*◌, ◌^◌, ◌<◌, ◌≤◌, inl, inr, Bool, true, false, not, ◌&&◌, ◌||◌, ◌==◌, List, [], ◌∷◌, ◌++◌, length, take, drop, refl, sym, ap, ◌∙◌, arith, Option, Some, None, add-one, slice_index_or, nat_eq, is_some}
use Rattle.std.specs.List.{list_all, position_or_len}
use Rattle.std.specs.Char.{is_ascii_digit}
use Rattle.std.proofs.lemmas.Bool.{cases_Bool, ne_eqb}
use Rattle.std.proofs.lemmas.Bool.Decides.{nat_tests}
use Rattle.std.proofs.lemmas.List.{append-nil, append_assoc, take-append-drop, take_more, drop_all}
use Rattle.std.proofs.lemmas.List.Folds.{list_all-append}
use Rattle.csv.specs.Machine.{Read, next_record, step, ends_at_end, after_end}
use Rattle.csv.specs.Reading.{default_config, records, records_from, strip_bom}
use Rattle.csv.specs.declared.parser.State.{State}
use Rattle.csv.specs.declared.parser.State.TheVariants as st
use Rattle.csv.specs.declared.parser.Action.TheVariants as act
use Rattle.csv.specs.declared.parser.Terminator.TheVariants as term
use Rattle.std.proofs.Math.Nat.{pow-le-pow_right, pow-succ'}
use Rattle.std.specs.Cmp.Lexicographic.{pointwise}
use Rattle.memchr.specs.Find.{IsFirstByte, is_byte}
use Rattle.topo_base.specs.Spelling.{digits_behind}
use Rattle.topo_csv.specs.Plain.{begins_record, ends_field, ends_line, has_no_quote, is_end_before, is_quote, IsCut}
use Rattle.topo_csv.proofs.Records.{no_records, read_between, records_behind}

none_of_all : (bytes : List ℕ) → ((k : ℕ) → k < length bytes → is_quote (slice_index_or bytes k 0) ≡ false) → has_no_quote bytes ≡ true
none_of_all [] h = refl
none_of_all (b ∷ bytes) h = let first = h 0 (omega arith) in rw first (none_of_all bytes (λ k lt. h (suc k) (omega (arith, lt))))

-- what both parts of a test say, where it passes
both : (a b : Bool) → (a && b) ≡ true → (a ≡ true) × (b ≡ true)
both true b h = (refl, h)
both false b h = cc h

neither : (a b : Bool) → (a || b) ≡ false → (a ≡ false) × (b ≡ false)
neither false b h = (refl, h)
neither true b h = cc h

passes : (b : Bool) → not b ≡ true → b ≡ false
passes false h = refl
passes true h = cc h

-- a byte that only joins the field at hand
joins_field : (b : ℕ) → ends_field b ≡ false → step default_config st.InField b ≡ (st.InField, act.Copy)
joins_field b h = let (comma, line) = neither (b == 44) (ends_line b) h in rw (comma, line) refl

begins_field : (b : ℕ) → ends_field b ≡ false → is_quote b ≡ false → step default_config st.StartField b ≡ (st.InField, act.Copy)
begins_field b h q = rw q (joins_field b h)

in_text : (fs : List (List ℕ)) (p text behind : List ℕ) → list_all (λ b. not (ends_field b)) text ≡ true
    → next_record default_config st.InField fs p (text ++ behind) ≡ next_record default_config st.InField fs (p ++ text) behind
unfolding next_record
in_text fs p [] behind h = rw (append-nil p) refl
in_text fs p (b ∷ text) behind h =
    let (first, more) = both _ _ h in
    rw (joins_field b (passes _ first)) (in_text fs (p ++ b ∷ []) text behind more ∙ ap (λ q. next_record default_config st.InField fs q behind) (append_assoc p (b ∷ []) text))

-- the state behind a text that begins a field
state_behind : List ℕ → State
state_behind [] = st.StartField
state_behind (b ∷ text) = st.InField

from_text : (fs : List (List ℕ)) (text behind : List ℕ) → list_all (λ b. not (ends_field b)) text ≡ true → has_no_quote text ≡ true
    → next_record default_config st.StartField fs [] (text ++ behind) ≡ next_record default_config (state_behind text) fs text behind
unfolding next_record state_behind
from_text fs [] behind h q = refl
from_text fs (b ∷ text) behind h q =
    let (first, more) = both _ _ h in
    let (plain, rest) = both _ _ q in
    rw (begins_field b (passes _ first) (passes _ plain)) (in_text fs (b ∷ []) text behind more)

at_comma : (fs : List (List ℕ)) (text more : List ℕ)
    → next_record default_config (state_behind text) fs text (44 ∷ more) ≡ next_record default_config st.StartField (fs ++ text ∷ []) [] more
unfolding next_record state_behind
at_comma fs [] more = refl
at_comma fs (b ∷ text) more = refl

at_end : (fs : List (List ℕ)) (text : List ℕ)
    → next_record default_config (state_behind text) fs text [] ≡ Some (fs ++ text ∷ [], st.StartRecord, [])
unfolding next_record state_behind
at_end fs [] = refl
at_end fs (b ∷ text) = refl

no_comma : (b : ℕ) → ends_line b ≡ true → (b == 44) ≡ false
no_comma b h = elim (cases_Bool (b == 44)) [
  | inl e ↦ let is : b ≡ 44 = grind (arith, nat_tests) in let no : ends_line 44 ≡ true = rw is at h in cc
  | inr e ↦ e
]

no_quote_there : (b : ℕ) → ends_line b ≡ true → (b == 34) ≡ false
no_quote_there b h = elim (cases_Bool (b == 34)) [
  | inl e ↦ let is : b ≡ 34 = grind (arith, nat_tests) in let no : ends_line 34 ≡ true = rw is at h in cc
  | inr e ↦ e
]

at_line : (fs : List (List ℕ)) (text : List ℕ) (b : ℕ) (more : List ℕ) → ends_line b ≡ true
    → next_record default_config (state_behind text) fs text (b ∷ more) ≡ Some (fs ++ text ∷ [], after_end term.CRLF b, more)
unfolding next_record state_behind
at_line fs [] b more h = rw (no_quote_there b h, no_comma b h, h) refl
at_line fs (c ∷ text) b more h = rw (no_comma b h, h) refl

-- the end of a line before a record is passed over
pub over_line : (b : ℕ) (more : List ℕ) → ends_line b ≡ true
    → next_record default_config st.StartRecord [] [] (b ∷ more) ≡ next_record default_config st.StartRecord [] [] more
unfolding next_record
over_line b more h = rw h refl

pub next_line : (bytes left more : List ℕ) (b : ℕ) → left ≡ b ∷ more → ends_line b ≡ true
    → next_record default_config st.StartRecord [] [] left ≡ next_record default_config st.StartRecord [] [] bytes
    → next_record default_config st.StartRecord [] [] more ≡ next_record default_config st.StartRecord [] [] bytes
next_line bytes left more b e h same = sym (over_line b more h) ∙ ap (next_record default_config st.StartRecord [] []) (sym e) ∙ same

pub plain_more : (left more : List ℕ) (b : ℕ) → left ≡ b ∷ more → has_no_quote left ≡ true → has_no_quote more ≡ true
plain_more left more b e h = (both (not (is_quote b)) (has_no_quote more) (rw e at h)).1

pub line_begins : (left more : List ℕ) (b : ℕ) → left ≡ b ∷ more → ends_line b ≡ false → begins_record left ≡ true
line_begins left more b e h = rw (e, h) refl

-- a record begins with a field
pub begins : (bytes : List ℕ) → begins_record bytes ≡ true → (length bytes ≡ 0 → ⊥)
    → next_record default_config st.StartRecord [] [] bytes ≡ next_record default_config st.StartField [] [] bytes
unfolding next_record
begins [] h some = absurd (some refl)
begins (b ∷ more) h some = rw (passes _ h) refl

-- between two records it makes no difference how the line ended
same_start : (s : State) (n : ℕ) (xs : List ℕ) → ends_at_end s ≡ false → records_from default_config (suc n) s xs ≡ records_from default_config (suc n) st.StartRecord xs
unfolding records_from next_record
same_start st.StartRecord n xs h = refl
same_start st.AfterCr n [] h = refl
same_start st.AfterCr n (c ∷ xs) h = elim (cases_Bool (c == 10)) [
  | inl e ↦ elim (cases_Bool (c == 13)) [ inl f ↦ rw (e, f) refl | inr f ↦ rw (e, f) refl ]
  | inr e ↦ rw e refl
]
same_start st.StartField n xs h = cc h
same_start st.InField n xs h = cc h
same_start st.InQuoted n xs h = cc h
same_start st.AfterQuote n xs h = cc h
same_start st.InEscape n xs h = cc h
same_start st.InComment n xs h = cc h

records_at : (xs : List ℕ) (fs : List (List ℕ)) (s : State) (more : List ℕ) → next_record default_config st.StartRecord [] [] xs ≡ Some (fs, s, more)
    → records default_config xs ≡ fs ∷ records default_config more
records_at xs fs s more e =
    let r : Read = (fs, s, more) in
    records_behind default_config st.StartRecord xs r refl e
    ∙ ap (λ rs. fs ∷ rs) (ap (λ n. records_from default_config n s more) (add-one (length more)) ∙ same_start s (length more) more (read_between default_config xs st.StartRecord [] [] r e) ∙ ap (λ n. records_from default_config n st.StartRecord more) (sym (add-one (length more))))

-- no record is left
pub none_left : (xs left : List ℕ) → next_record default_config st.StartRecord [] [] left ≡ next_record default_config st.StartRecord [] [] xs → length left ≡ 0
    → records default_config xs ≡ []
unfolding next_record
none_left xs [] e h = no_records default_config st.StartRecord xs (sym e)
none_left xs (b ∷ left) e h = absurd (omega arith)

-- the fields of a record so far, and the bytes behind them
pub record IsAhead (xs : List ℕ) (fs : List (List ℕ)) (left : List ℕ) : Type 0 where
  pub reads : next_record default_config st.StartRecord [] [] xs ≡ next_record default_config st.StartField fs [] left
  pub plain : has_no_quote left ≡ true

plain_parts : (text behind : List ℕ) → has_no_quote (text ++ behind) ≡ true → (has_no_quote text ≡ true) × (has_no_quote behind ≡ true)
plain_parts text behind h = both _ _ (sym (list_all-append (λ b. not (is_quote b)) text behind) ∙ h)

behind_field : (xs : List ℕ) (fs : List (List ℕ)) (left text behind : List ℕ) → IsAhead xs fs left → IsCut left text behind
    → (next_record default_config st.StartRecord [] [] xs ≡ next_record default_config (state_behind text) fs text behind) × (has_no_quote behind ≡ true)
behind_field xs fs left text behind a cut =
    let parts = plain_parts text behind (rw cut.joined at a.plain) in
    (a.reads ∙ ap (next_record default_config st.StartField fs []) cut.joined ∙ from_text fs text behind cut.inside parts.0, parts.1)

pub starts_ahead : (bytes left : List ℕ) → next_record default_config st.StartRecord [] [] left ≡ next_record default_config st.StartRecord [] [] bytes → begins_record left ≡ true → (length left == 0) ≡ false → has_no_quote left ≡ true → IsAhead bytes [] left
starts_ahead bytes left same first some plain = record { reads = sym same ∙ begins left first (λ z. grind (arith, nat_tests)); plain = plain }

-- one field more
pub next_field : (xs : List ℕ) (fs : List (List ℕ)) (left text behind more : List ℕ) → IsAhead xs fs left → IsCut left text behind → behind ≡ 44 ∷ more
    → IsAhead xs (fs ++ text ∷ []) more
next_field xs fs left text behind more a cut e =
    let b = behind_field xs fs left text behind a cut in
    let plain : has_no_quote (44 ∷ more) ≡ true = rw e at b.1 in
    record { reads = b.0 ∙ ap (next_record default_config (state_behind text) fs text) e ∙ at_comma fs text more; plain = plain }

-- the last field of a line
pub last_of_line : (xs : List ℕ) (fs : List (List ℕ)) (left text behind : List ℕ) (b : ℕ) (more : List ℕ) → IsAhead xs fs left → IsCut left text behind → behind ≡ b ∷ more → (b == 44) ≡ false
    → (records default_config xs ≡ (fs ++ text ∷ []) ∷ records default_config more) × (has_no_quote more ≡ true)
last_of_line xs fs left text behind b more a cut e other =
    let ahead = behind_field xs fs left text behind a cut in
    let ended : ends_field b ≡ true = rw e at cut.ended in
    let line : ends_line b ≡ true = rw other at ended in
    let plain : has_no_quote (b ∷ more) ≡ true = rw e at ahead.1 in
    (records_at xs (fs ++ text ∷ []) (after_end term.CRLF b) more (ahead.0 ∙ ap (next_record default_config (state_behind text) fs text) e ∙ at_line fs text b more line), (both _ _ plain).1)

-- the last field of a table
pub last_of_all : (xs : List ℕ) (fs : List (List ℕ)) (left text behind : List ℕ) → IsAhead xs fs left → IsCut left text behind → behind ≡ []
    → (records default_config xs ≡ (fs ++ text ∷ []) ∷ records default_config behind) × (has_no_quote behind ≡ true)
last_of_all xs fs left text behind a cut e =
    let ahead = behind_field xs fs left text behind a cut in
    rw e (records_at xs (fs ++ text ∷ []) st.StartRecord [] (ahead.0 ∙ ap (next_record default_config (state_behind text) fs text) e ∙ at_end fs text), refl)

drop_next : (bytes : List ℕ) (k : ℕ) → k < length bytes → drop k bytes ≡ slice_index_or bytes k 0 ∷ drop (k + 1) bytes
drop_next [] k lt = absurd (omega arith)
drop_next (b ∷ bytes) zero lt = refl
drop_next (b ∷ bytes) (suc k) lt = rw add-one (rw add-one at (drop_next bytes k (omega arith)))

-- where a field ends
stops : (b : ℕ) (xs : List ℕ) → ends_field b ≡ true → position_or_len ends_field (b ∷ xs) ≡ 0
stops b xs e = rw e refl

goes_on : (b : ℕ) (xs : List ℕ) → ends_field b ≡ false → position_or_len ends_field (b ∷ xs) ≡ suc (position_or_len ends_field xs)
goes_on b xs e = rw e (omega arith)

pub inside_of : (xs : List ℕ) → list_all (λ b. not (ends_field b)) (take (position_or_len ends_field xs) xs) ≡ true
inside_of [] = refl
inside_of (b ∷ xs) = elim (cases_Bool (ends_field b)) [
  | inl e ↦ ap (λ n. list_all (λ c. not (ends_field c)) (take n (b ∷ xs))) (stops b xs e)
  | inr e ↦ ap (λ n. list_all (λ c. not (ends_field c)) (take n (b ∷ xs))) (goes_on b xs e) ∙ ap (λ t. not t && list_all (λ c. not (ends_field c)) (take (position_or_len ends_field xs) xs)) e ∙ inside_of xs
]

pub ended_at : (xs : List ℕ) → is_end_before (drop (position_or_len ends_field xs) xs) ≡ true
ended_at [] = refl
ended_at (b ∷ xs) = elim (cases_Bool (ends_field b)) [
  | inl e ↦ ap (λ n. is_end_before (drop n (b ∷ xs))) (stops b xs e) ∙ e
  | inr e ↦ ap (λ n. is_end_before (drop n (b ∷ xs))) (goes_on b xs e) ∙ ended_at xs
]

-- digits end no field
digit_inside : (b : ℕ) → is_ascii_digit b ≡ true → ends_field b ≡ false
digit_inside b h = elim (cases_Bool (ends_field b)) [
  | inl e ↦ grind (arith, nat_tests)
  | inr e ↦ e
]

pub digits_inside : (n : ℕ) (text : List ℕ) (m : ℕ) → digits_behind n text ≡ Some m → list_all (λ b. not (ends_field b)) text ≡ true
unfolding digits_behind
digits_inside n [] m h = refl
digits_inside n (b ∷ text) m h = elim (cases_Bool (is_ascii_digit b)) [
  | inl e ↦ rw (digit_inside b e) (digits_inside (10 * n + (b - 48)) text m (rw e at h))
  | inr e ↦ let no : ◌≡◌ {A = Option ℕ} None (Some m) = rw e at h in cc
]

-- one digit more
pub one_digit : (n : ℕ) (text : List ℕ) (m b : ℕ) → digits_behind n text ≡ Some m → is_ascii_digit b ≡ true → digits_behind n (text ++ b ∷ []) ≡ Some (10 * m + (b - 48))
unfolding digits_behind
one_digit n [] m b h digit = let same : n ≡ m = cc in rw (digit, same) refl
one_digit n (c ∷ text) m b h digit = elim (cases_Bool (is_ascii_digit c)) [
  | inl e ↦ rw e (one_digit (10 * n + (c - 48)) text m b (rw e at h) digit)
  | inr e ↦ let no : ◌≡◌ {A = Option ℕ} None (Some m) = rw e at h in cc
]

pub no_digits : digits_behind 0 [] ≡ Some 0
unfolding digits_behind
no_digits = refl

pub digit_more : (bytes : List ℕ) (k m : ℕ) → k < length bytes → digits_behind 0 (take k bytes) ≡ Some m → is_ascii_digit (slice_index_or bytes k 0) ≡ true
    → digits_behind 0 (take (k + 1) bytes) ≡ Some (10 * m + (slice_index_or bytes k 0 - 48))
digit_more bytes k m lt h digit = ap (digits_behind 0) (take_more bytes k 0 lt) ∙ one_digit 0 (take k bytes) m (slice_index_or bytes k 0) h digit

pub digit_value : (b : ℕ) → is_ascii_digit b ≡ true → b - 48 ≤ 9
digit_value b h = grind (arith, nat_tests)

-- so many digits make no greater number
pub digits_within : (k n most : ℕ) → n < 10 ^ k → k ≤ most → n < 10 ^ most
digits_within k n most small le = let more : 10 ^ k ≤ 10 ^ most = pow-le-pow_right (omega arith) le in omega arith

pub one_digit_within : (k n d : ℕ) → n < 10 ^ k → d ≤ 9 → 10 * n + d < 10 ^ (k + 1)
one_digit_within k n d small nine = let more : 10 ^ (k + 1) ≡ 10 * 10 ^ k = ap (λ n. 10 ^ n) (add-one k) ∙ pow-succ' 10 k in omega arith

-- a field of digits, and any other
pub cut_behind_digits : (bytes text behind : List ℕ) (k m : ℕ) → text ≡ take k bytes → behind ≡ drop k bytes → digits_behind 0 (take k bytes) ≡ Some m → is_end_before behind ≡ true → IsCut bytes text behind
cut_behind_digits bytes text behind k m front back spelled ended =
    record { joined = rw (front, back) (sym (take-append-drop k bytes)); inside = rw front (digits_inside 0 (take k bytes) m spelled); ended = ended }

take_sign : (k : ℕ) (xs : List ℕ) → take (1 + k) (45 ∷ xs) ≡ 45 ∷ take k xs
take_sign k xs = let next : 1 + k ≡ suc k = omega arith in rw next refl

-- the same behind a sign
pub cut_behind_sign : (bytes unsigned text behind : List ℕ) (k m : ℕ) → bytes ≡ 45 ∷ unsigned → text ≡ take (1 + k) bytes → behind ≡ drop (1 + k) bytes → digits_behind 0 (take k unsigned) ≡ Some m → is_end_before behind ≡ true → IsCut bytes text behind
cut_behind_sign bytes unsigned text behind k m is front back spelled ended =
    let text_is : text ≡ 45 ∷ take k unsigned = front ∙ ap (take (1 + k)) is ∙ take_sign k unsigned in
    record { joined = rw (front, back) (sym (take-append-drop (1 + k) bytes)); inside = rw text_is (digits_inside 0 (take k unsigned) m spelled); ended = ended }

pub len_within : (bytes : List ℕ) → position_or_len ends_field bytes ≤ length bytes
len_within [] = omega arith
len_within (b ∷ bytes) = elim (cases_Bool (ends_field b)) [
  | inl e ↦ rw (stops b bytes e) (omega arith)
  | inr e ↦ let le = len_within bytes in rw (goes_on b bytes e) (omega arith)
]

pub cut_at_end : (bytes text behind : List ℕ) (k : ℕ) → k ≡ position_or_len ends_field bytes → text ≡ take k bytes → behind ≡ drop k bytes → IsCut bytes text behind
cut_at_end bytes text behind k is front back =
    record { joined = rw (front, back) (sym (take-append-drop k bytes)); inside = rw (front, is) (inside_of bytes); ended = rw (back, is) (ended_at bytes) }

-- the end of a field from a place on
pub end_behind : (bytes : List ℕ) (k all : ℕ) → k < length bytes → ends_field (slice_index_or bytes k 0) ≡ false → k + position_or_len ends_field (drop k bytes) ≡ all
    → k + 1 + position_or_len ends_field (drop (k + 1) bytes) ≡ all
end_behind bytes k all lt on e =
    let here = ap (position_or_len ends_field) (drop_next bytes k lt) ∙ goes_on (slice_index_or bytes k 0) (drop (k + 1) bytes) on in
    omega arith

pub end_here : (bytes : List ℕ) (k all : ℕ) → k < length bytes → ends_field (slice_index_or bytes k 0) ≡ true → k + position_or_len ends_field (drop k bytes) ≡ all → k ≡ all
end_here bytes k all lt ends e =
    let here = ap (position_or_len ends_field) (drop_next bytes k lt) ∙ stops (slice_index_or bytes k 0) (drop (k + 1) bytes) ends in
    omega arith

pub end_of_bytes : (bytes : List ℕ) (k all : ℕ) → length bytes ≤ k → k + position_or_len ends_field (drop k bytes) ≡ all → k ≡ all
end_of_bytes bytes k all le e =
    let here = ap (position_or_len ends_field) (drop_all k bytes le) in
    omega arith

-- bytes behind a byte order mark
pub marked : (bytes rest : List ℕ) → pointwise nat_eq (take 3 bytes) (0xEF ∷ 0xBB ∷ 0xBF ∷ []) ≡ true → rest ≡ drop 3 bytes → rest ≡ strip_bom bytes
unfolding strip_bom
marked [] rest h e = cc h
marked (a ∷ []) rest h e = elim (cases_Bool (a == 0xEF)) [
  | inl x ↦ let no : ◌≡◌ {A = Bool} false true = rw x at h in cc
  | inr x ↦ let no : ◌≡◌ {A = Bool} false true = rw x at h in cc
]
marked (a ∷ b ∷ []) rest h e = elim (cases_Bool (a == 0xEF)) [
  | inl x ↦ elim (cases_Bool (b == 0xBB)) [
    | inl y ↦ let no : ◌≡◌ {A = Bool} false true = rw (x, y) at h in cc
    | inr y ↦ let no : ◌≡◌ {A = Bool} false true = rw (x, y) at h in cc
  ]
  | inr x ↦ let no : ◌≡◌ {A = Bool} false true = rw x at h in cc
]
marked (a ∷ b ∷ c ∷ more) rest h e = elim (cases_Bool (a == 0xEF)) [
  | inl x ↦ elim (cases_Bool (b == 0xBB)) [
    | inl y ↦ elim (cases_Bool (c == 0xBF)) [
      | inl z ↦ rw (x, y, z) e
      | inr z ↦ let no : ◌≡◌ {A = Bool} false true = rw (x, y, z) at h in cc
    ]
    | inr y ↦ let no : ◌≡◌ {A = Bool} false true = rw (x, y) at h in cc
  ]
  | inr x ↦ let no : ◌≡◌ {A = Bool} false true = rw x at h in cc
]

pub unmarked : (bytes : List ℕ) → pointwise nat_eq (take 3 bytes) (0xEF ∷ 0xBB ∷ 0xBF ∷ []) ≡ false → bytes ≡ strip_bom bytes
unfolding strip_bom
unmarked [] h = refl
unmarked (a ∷ []) h = refl
unmarked (a ∷ b ∷ []) h = refl
unmarked (a ∷ b ∷ c ∷ more) h = elim (cases_Bool (a == 0xEF)) [
  | inl x ↦ elim (cases_Bool (b == 0xBB)) [
    | inl y ↦ elim (cases_Bool (c == 0xBF)) [
      | inl z ↦ let no : ◌≡◌ {A = Bool} true false = rw (x, y, z) at h in cc
      | inr z ↦ rw (x, y, z) refl
    ]
    | inr y ↦ rw (x, y) refl
  ]
  | inr x ↦ rw x refl
]

-- a search for a quote finds none where there is none
pub no_quote_found : (bytes : List ℕ) (found : Option ℕ) → IsFirstByte (is_byte 34) bytes found → is_some found ≡ false → has_no_quote bytes ≡ true
no_quote_found bytes None first h = none_of_all bytes (λ k lt. ne_eqb (slice_index_or bytes k 0) 34 (λ e. first k (omega arith) lt (rw e refl)))
no_quote_found bytes (Some place) first h = cc h

-- bytes without quotes have none behind a byte order mark
pub plain_behind_mark : (bytes : List ℕ) → has_no_quote bytes ≡ true → has_no_quote (strip_bom bytes) ≡ true
unfolding strip_bom
plain_behind_mark [] h = h
plain_behind_mark (a ∷ []) h = h
plain_behind_mark (a ∷ b ∷ []) h = h
plain_behind_mark (a ∷ b ∷ c ∷ rest) h = elim (cases_Bool ((a == 0xEF) && (b == 0xBB) && (c == 0xBF))) [
  | inl e ↦ rw e (both (not (is_quote c)) _ (both (not (is_quote b)) _ (both (not (is_quote a)) _ h).1).1).1
  | inr e ↦ rw e h
]
