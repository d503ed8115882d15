-- The rows of lines, one by one.
use Rattle.std.proofs.Common.{◌≡◌, ℕ, ◌+◌, List, [], ◌∷◌, ◌++◌, refl, sym, ap, ◌∙◌, append_assoc, arith, ◌≤◌, inl, inr, true, false}
use Rattle.std.specs.Prelude.{nat_lt, Bool, Some, None, Result, Ok, Err, IfErr, IsErrAnd, OnOk, is_ok, length, map}
use Rattle.std.proofs.lemmas.List.{append-nil, length-append}
use Rattle.std.proofs.lemmas.Bool.{cases_Bool}
use Rattle.std.proofs.lemmas.Bool.Decides.{nat_tests}
use Rattle.topo_base.specs.declared.refusal.Refusal.TheVariants as refusal
use Rattle.topo_base.specs.declared.refusal.Refusal.{Refusal}
use Rattle.topo_base.specs.declared.refusal.Table.{Table}
use Rattle.plane_model.specs.Reading.{Line, most_rows, row_of, rows_from, rows_in, header_fault, ◌>>=◌}
use Rattle.topo_base.specs.declared.refusal.Table.TheVariants as table
use Rattle.topo_csv.specs.declared.fault.CsvFault.{CsvFault}
use Rattle.topo_csv.specs.declared.fault.CsvFault.TheVariants as fault
use Rattle.topo_csv.specs.Fault.{IsFault}
use Rattle.topo_csv.specs.Left.{GivesNext}
use Rattle.topo_csv.specs.Texts.{text_of}
use Rattle.topo_csv.specs.declared.field.Field.{Field}

-- these rows, and those behind them
unfoldable pub behind : {R : Type 0} → List R → Result (List R) Refusal → Result (List R) Refusal
behind rows (Ok more) = Ok (rows ++ more)
behind rows (Err e) = Err e

pub behind_none : {R : Type 0} (x : Result (List R) Refusal) → x ≡ behind [] x
unfolding behind
behind_none (Ok more) = refl
behind_none (Err e) = refl

one_more : {R : Type 0} (rows : List R) (r : R) (x : Result (List R) Refusal) → behind rows (x >>= λ rs. Ok (r ∷ rs)) ≡ behind (rows ++ (r ∷ [])) x
unfolding behind
one_more rows r (Ok more) = ap Ok (sym (append_assoc rows (r ∷ []) more))
one_more rows r (Err e) = refl

-- what is said of a success, where there is one
pub at_success : {X E P : Type 0} (result : Result X E) → is_ok result ≡ true → OnOk result P → P
at_success (Ok x) good h = h
at_success (Err e) good h = cc good

-- one row more is held
pub one_longer : {R : Type 0} (held rows : List R) (r : R) → held ≡ rows ++ (r ∷ []) → length held ≡ length rows + 1
one_longer held rows r h = rw h (length-append rows (r ∷ []))

-- a line whose row was read
pub read_one : {R : Type 0} (t : Table) (read : Line → Result R Refusal) (header : List (List ℕ)) (n : ℕ) (left : List (List (List ℕ))) (fields : List (List ℕ)) (more : List (List (List ℕ))) (rows : List R) (r : R)
    → left ≡ fields ∷ more → Ok r ≡ row_of t read (record { header = header; row = n; fields = fields })
    → behind rows (rows_from t read header n left) ≡ behind (rows ++ (r ∷ [])) (rows_from t read header (n + 1) more)
unfolding rows_from
read_one t read header n left fields more rows r e h = rw (e, sym h) (one_more rows r (rows_from t read header (n + 1) more))

-- a line that is refused
pub refused_one : {R : Type 0} (t : Table) (read : Line → Result R Refusal) (header : List (List ℕ)) (n : ℕ) (left : List (List (List ℕ))) (fields : List (List ℕ)) (more : List (List (List ℕ))) (rows : List R) (why : Refusal)
    → left ≡ fields ∷ more → Err why ≡ row_of t read (record { header = header; row = n; fields = fields })
    → behind rows (rows_from t read header n left) ≡ Err why
unfolding rows_from behind
refused_one t read header n left fields more rows why e h = rw (e, sym h) refl

-- a record that was given, by the texts of its fields
pub texts_given : (left : List (List (List ℕ))) (row : List (List ℕ)) (more : List (List (List ℕ))) (items fields : List Field) → left ≡ row ∷ more → fields ≡ items → map text_of items ≡ row → left ≡ map text_of fields ∷ more
texts_given left row more items fields given same texts = given ∙ ap (λ r. r ∷ more) (sym (ap (map text_of) same ∙ texts))

pub texts_behind : (left : List (List (List ℕ))) (more : List (List (List ℕ))) (items fields : List Field) → left ≡ map text_of items ∷ more → fields ≡ items → left ≡ map text_of fields ∷ more
texts_behind left more items fields given same = given ∙ ap (λ fs. map text_of fs ∷ more) (sym same)

-- no line is left
pub read_all : {R : Type 0} (t : Table) (read : Line → Result R Refusal) (header : List (List ℕ)) (n : ℕ) (left : List (List (List ℕ))) (rows : List R)
    → left ≡ [] → behind rows (rows_from t read header n left) ≡ Ok rows
unfolding rows_from behind
read_all t read header n left rows e = rw e (ap Ok (append-nil rows))

-- a row that was read stands within the limit
pub row_within : {R : Type 0} (t : Table) (read : Line → Result R Refusal) (header : List (List ℕ)) (n : ℕ) (fields : List (List ℕ)) (r : R) → Ok r ≡ row_of t read (record { header = header; row = n; fields = fields }) → n ≤ most_rows t
row_within {R} t read header n fields r h = elim (cases_Bool (nat_lt (most_rows t) n)) [
  | inl e ↦ let no : ◌≡◌ {A = Result R Refusal} (Ok r) (Err (refusal.TooMany t)) = rw e at h in cc
  | inr e ↦ grind (arith, nat_tests)
]

-- a refusal that is passed on is the one that was found
pub passed_on : {X R : Type 0} (result : Result X CsvFault) (why : Refusal) (read : Result (List R) Refusal) → IsErrAnd result (λ e. e ≡ fault.Refused why) → read ≡ Err why → IfErr result (λ e. IsFault e read)
passed_on (Ok x) why read h e = tt
passed_on (Err f) why read h e = rw h e

-- a table without a record has no header that is accepted
pub header_missing : (t : Table) → header_fault t [] ≡ None → ⊥
header_missing table.Node h = cc h
header_missing table.Edge h = cc h
header_missing table.Face h = cc h
header_missing table.Region h = cc h
header_missing table.Member h = cc h

-- the rows of records, of which the first is the header, or which are none
pub rows_refused : {R : Type 0} (t : Table) (read : Line → Result R Refusal) (all : List (List (List ℕ))) (found : Bool) (names : List (List ℕ)) (more : List (List (List ℕ))) (why : Refusal)
    → GivesNext all found names more → header_fault t names ≡ Some why → rows_in t read all ≡ Err why
rows_refused t read all true names more why h e = rw (h, e) refl
rows_refused t read all false names more why h e = let none = rw h.1 at e in rw (h.0, none) refl

pub rows_accepted : {R : Type 0} (t : Table) (read : Line → Result R Refusal) (all : List (List (List ℕ))) (found : Bool) (names : List (List ℕ)) (more : List (List (List ℕ)))
    → GivesNext all found names more → header_fault t names ≡ None → (found ≡ true) × (rows_in t read all ≡ rows_from t read names 1 more)
rows_accepted t read all true names more h e = (refl, rw (h, e) refl)
rows_accepted t read all false names more h e = absurd (header_missing t (rw h.1 at e))
