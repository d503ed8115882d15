-- Fields that need no quotes, and the records of lines of such fields.
use Rattle.std.proofs.Common.{◌≡◌, ℕ, zero, suc, ◌+◌, ◌<◌, ◌≤◌, ◌^◌, Bool, true, false, not, ◌&&◌, ◌==◌, List, [], ◌∷◌, ◌++◌, length, length-append, refl, sym, ap, ◌∙◌, arith, decimal}
use Rattle.std.specs.Prelude.{negsuc, flat_map}
use Rattle.std.specs.Char.{digit_value}
use Rattle.std.specs.Fmt.{signed_decimal}
use Rattle.std.specs.Str.Parse.{AllDigits}
use Rattle.std.specs.List.{list_all, list_any, join_with_byte}
use Rattle.std.proofs.lemmas.Bool.{and_parts, not-true, or_from, ne_eqb}
use Rattle.std.proofs.lemmas.List.{append-nil}
use Rattle.std.proofs.lemmas.Str.Parse.{digit_from_value}
use Rattle.std.proofs.lemmas.Fmt.{decimal_is_IsNumeral}
use Rattle.csv.specs.Machine.{next_record}
use Rattle.csv.specs.Reading.{default_config, records, records_from}
use Rattle.csv.specs.Writing.{default_writer, field_text, fields_text, is_blank, needs_byte, read_back, row_text}
use Rattle.csv.specs.declared.parser.State.TheVariants as st
use Rattle.csv.proofs.RoundTrip.{read-write, rows_text}
use Rattle.plane_model.specs.Texts.{text_line}

-- no byte of the field is a mark of the format
abbrev pub is_plain : List ℕ → Bool
is_plain x = not (list_any (needs_byte default_writer) x)

digit_plain : (c : ℕ) → digit_value c < 10 → needs_byte default_writer c ≡ false
digit_plain c h =
    let r = digit_from_value c h in
    let comma : (c == 44) ≡ false = ne_eqb c 44 (λ e. omega arith) in
    let quote : (c == 34) ≡ false = ne_eqb c 34 (λ e. omega arith) in
    let cr : (c == 13) ≡ false = ne_eqb c 13 (λ e. omega arith) in
    let lf : (c == 10) ≡ false = ne_eqb c 10 (λ e. omega arith) in
    rw (comma, quote, cr, lf) refl

digits_plain : (ds : List ℕ) → AllDigits 10 ds → list_any (needs_byte default_writer) ds ≡ false
digits_plain [] all = refl
digits_plain (c ∷ ds) all = or_from _ _ (digit_plain c all.0) (digits_plain ds all.1)

any_decimal : (n : ℕ) → n < 2 ^ 64 → list_any (needs_byte default_writer) (decimal n) ≡ false
any_decimal n h = digits_plain (decimal n) (decimal_is_IsNumeral n h).0.1

pub decimal-plain : (n : ℕ) → n < 2 ^ 64 → is_plain (decimal n) ≡ true
decimal-plain n h = rw (any_decimal n h) refl

pub signed-plain : (n : ℕ) → suc n < 2 ^ 64 → is_plain (signed_decimal (negsuc n)) ≡ true
signed-plain n h = rw (any_decimal (suc n) h) refl

-- a line that shows some byte, of plain fields
abbrev pub is_line : List (List ℕ) → Bool
is_line fields = list_all is_plain fields && not (is_blank default_writer fields)

pub plain_text : (x : List ℕ) → is_plain x ≡ true → field_text default_writer x ≡ x
plain_text x h = let none : list_any (needs_byte default_writer) x ≡ false = not-true _ h in rw none refl

joined : (x : List ℕ) (rest : List (List ℕ)) → list_all is_plain rest ≡ true → join_with_byte 44 (x ∷ rest) ≡ x ++ fields_text default_writer rest
unfolding fields_text
joined x [] all = sym (append-nil x)
joined x (y ∷ ys) all =
    let parts = and_parts (is_plain y) (list_all is_plain ys) all in
    ap (λ s. x ++ (44 ∷ s)) (joined y ys parts.1 ∙ ap (λ s. s ++ fields_text default_writer ys) (sym (plain_text y parts.0)))

-- such a line is the text that the format has for its fields
line_text : (fields : List (List ℕ)) → is_line fields ≡ true → text_line fields ≡ row_text default_writer fields
unfolding is_blank
line_text [] h = absurd (cc h)
line_text (x ∷ rest) h =
    let parts = and_parts (list_all is_plain (x ∷ rest)) (not (is_blank default_writer (x ∷ rest))) h in
    let plain = and_parts (is_plain x) (list_all is_plain rest) parts.0 in
    let shown : is_blank default_writer (x ∷ rest) ≡ false = not-true _ parts.1 in
    rw (shown, plain_text x plain.0) (ap (λ s. s ++ (10 ∷ [])) (joined x rest plain.1))

lines_text : (lines : List (List (List ℕ))) → list_all is_line lines ≡ true → flat_map text_line lines ≡ rows_text lines
unfolding rows_text
lines_text [] all = refl
lines_text (line ∷ lines) all =
    let parts = and_parts (is_line line) (list_all is_line lines) all in
    ap (λ s. s ++ flat_map text_line lines) (line_text line parts.0) ∙ ap (λ s. row_text default_writer line ++ s) (lines_text lines parts.1)

back : (fields : List (List ℕ)) → is_line fields ≡ true → read_back fields ≡ fields
unfolding is_blank
back [] h = absurd (cc h)
back (x ∷ rest) h = refl

-- the records of the text are the lines, where there are more turns than lines
records_of_rows : (n : ℕ) (lines : List (List (List ℕ))) → length lines < n → list_all is_line lines ≡ true → records_from default_config n st.StartRecord (rows_text lines) ≡ lines
unfolding records_from next_record rows_text
records_of_rows zero lines h all = absurd (omega arith)
records_of_rows (suc n) [] h all = refl
records_of_rows (suc n) (line ∷ lines) h all =
    let parts = and_parts (is_line line) (list_all is_line lines) all in
    let more = records_of_rows n lines (omega arith) parts.1 in
    rw (read-write line (rows_text lines), back line parts.0) (ap (λ rest. line ∷ rest) more)

as_long : (lines : List (List (List ℕ))) → length lines ≤ length (flat_map text_line lines)
as_long [] = omega arith
as_long (line ∷ lines) =
    let more = as_long lines in
    let whole = length-append (text_line line) (flat_map text_line lines) in
    let own = length-append (join_with_byte 44 line) (10 ∷ []) in
    omega arith

pub records_of_lines : (lines : List (List (List ℕ))) → list_all is_line lines ≡ true → records default_config (flat_map text_line lines) ≡ lines
records_of_lines lines all =
    let long = as_long lines in
    ap (λ s. records_from default_config (length (flat_map text_line lines) + 1) st.StartRecord s) (lines_text lines all)
    ∙ records_of_rows (length (flat_map text_line lines) + 1) lines (omega arith) all
