-- The rows that a header and lines of fields read as.
use Rattle.std.proofs.Common.{◌≡◌, ℕ, ◌+◌, ◌≤◌, Bool, true, false, List, [], ◌∷◌, ◌++◌, map, length, None, refl, ap, ◌∙◌, arith, eq-eqb}
use Rattle.std.specs.Prelude.{nat_lt, flat_map, Result, Ok}
use Rattle.std.specs.List.{list_all}
use Rattle.std.proofs.lemmas.Bool.{and_parts, and_from, le-ltb}
use Rattle.csv.specs.Reading.{records, default_config, strip_bom}
use Rattle.topo_base.specs.declared.refusal.Table.{Table}
use Rattle.topo_base.specs.declared.refusal.Refusal.{Refusal}
use Rattle.plane_model.specs.Reading.{Line, columns, column_name, most_rows, header_fault, unless_fault, row_of, rows_from, rows_in, rows}
use Rattle.plane_model.specs.Texts.{text_line}
use Rattle.table_text.proofs.Plain.{is_line, records_of_lines}

-- the header of a table's text
abbrev pub header_of : Table → List (List ℕ)
header_of t = map column_name (columns t)

-- a row that is written as these fields is read from them, whatever its number
pub record IsWritten {R : Type 0} (t : Table) (read : Line → Result R Refusal) (fields : List (List ℕ)) (r : R) : Type 0 where
  pub line : is_line fields ≡ true
  pub whole : length fields ≡ length (header_of t)
  pub reads : (n : ℕ) → read (record { header = header_of t; row = n; fields = fields }) ≡ Ok r

one_row : {R : Type 0} (t : Table) (read : Line → Result R Refusal) (fields : List (List ℕ)) (r : R) (n : ℕ) → IsWritten t read fields r → n ≤ most_rows t
    → row_of t read (record { header = header_of t; row = n; fields = fields }) ≡ Ok r
one_row t read fields r n w few =
    let within : nat_lt (most_rows t) n ≡ false = le-ltb (most_rows t) n few in
    rw (within, eq-eqb (length fields) (length (header_of t)) w.whole) (w.reads n)

module _ {R : Type 0} (t : Table) (read : Line → Result R Refusal) (fields : R → List (List ℕ)) (ok : R → Bool)
    (written : (r : R) → ok r ≡ true → IsWritten t read (fields r) r) where
  all_rows : (n : ℕ) (rs : List R) → list_all ok rs ≡ true → n + length rs ≤ most_rows t + 1 → rows_from t read (header_of t) n (map fields rs) ≡ Ok rs
  unfolding rows_from
  all_rows n [] all few = refl
  all_rows n (r ∷ rs) all few =
      let parts = and_parts (ok r) (list_all ok rs) all in
      let first = one_row t read (fields r) r n (written r parts.0) (omega arith) in
      let more = all_rows (n + 1) rs parts.1 (omega arith) in
      rw (first, more) refl

  all_lines : (rs : List R) → list_all ok rs ≡ true → list_all is_line (map fields rs) ≡ true
  all_lines [] all = refl
  all_lines (r ∷ rs) all = let parts = and_parts (ok r) (list_all ok rs) all in and_from _ _ (written r parts.0).line (all_lines rs parts.1)

  -- the text of a header and of rows reads as the rows
  pub rows_of_text : (rs : List R) → list_all ok rs ≡ true → length rs ≤ most_rows t → is_line (header_of t) ≡ true → header_fault t (header_of t) ≡ None
      → let bytes = text_line (header_of t) ++ flat_map text_line (map fields rs) in strip_bom bytes ≡ bytes → rows t read bytes ≡ Ok rs
  rows_of_text rs all few head fine no_mark =
      let lines : records default_config (flat_map text_line (header_of t ∷ map fields rs)) ≡ header_of t ∷ map fields rs =
      records_of_lines (header_of t ∷ map fields rs) (and_from _ _ head (all_lines rs all)) in
      ap (λ s. rows_in t read (records default_config s)) no_mark
      ∙ ap (rows_in t read) lines
      ∙ ap (λ o. unless_fault o (rows_from t read (header_of t) 1 (map fields rs))) fine
      ∙ all_rows 1 rs all (omega arith)
