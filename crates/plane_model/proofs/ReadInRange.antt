-- Rows that are read are within the limits.
use Rattle.std.proofs.Common.{◌≡◌, ℕ, ◌+◌, ◌≤◌, inl, inr, ℤ, pos, neg_ℤ, Bool, true, ◌&&◌, ◌==◌, if◌then◌else◌, List, [], ◌∷◌, length, Option, Some, None, Result, Ok, Err, IfOk, refl, sym, ap, ◌∙◌, subst, arith}
use Rattle.std.specs.Prelude.{nat_lt, nat_le, option_map, option_and_then}
use Rattle.std.specs.List.{list_all}
use Rattle.std.proofs.lemmas.Bool.{cases_Bool, and_from, and_parts, ltb-false}
use Rattle.topo_base.specs.SignedEdge.{edge_of, is_signed_edge}
use Rattle.topo_base.specs.Spelling.{in_range, plain_decimal, id_number, positive_number, signed_number}
use Rattle.topo_base.specs.declared.id.TheConstants.{LARGEST_ID}
use Rattle.topo_base.specs.declared.refusal.Table.{Table}
use Rattle.topo_base.specs.declared.refusal.Table.TheVariants as table
use Rattle.topo_base.specs.declared.refusal.Column.{Column}
use Rattle.topo_base.specs.declared.refusal.Column.TheVariants as column
use Rattle.std.proofs.lemmas.Result.{IfOk-at_ok}
use Rattle.std.proofs.lemmas.Option.{same_Some}
use Rattle.topo_base.specs.declared.refusal.Refusal.{Refusal}
use Rattle.topo_base.specs.declared.refusal.Refusal.TheVariants as refusal
use Rattle.plane_model.specs.declared.rows.FaceRow.{FaceRow}
use Rattle.plane_model.specs.InRange.{is_id, is_face_id, is_none_or, is_edge_in_range}
use Rattle.plane_model.specs.Reading.{◌>>=◌, Line, field, ok_or_bad, required, optional, node_row, edge_row, face_row, region_row, member_row, row_of, rows_from, rows_in, rows, unless_fault, header_fault, most_rows}
use Rattle.csv.specs.Reading.{records, default_config, strip_bom}
use Rattle.plane_model.proofs.Lookups.{edge_of-neg}

-- the parts of a result that is Ok
record Parts {A B : Type 0} (r : Result A Refusal) (f : A → Result B Refusal) (b : B) : Type 0 where
  value : A
  first : r ≡ Ok value
  second : f value ≡ Ok b

bind-ok : {A B : Type 0} (r : Result A Refusal) (f : A → Result B Refusal) (b : B) → r >>= f ≡ Ok b → Parts r f b
bind-ok (Ok a) f b e = record { value = a; first = refl; second = e }
bind-ok (Err x) f b e = cc

same_ok : {A : Type 0} (x y : A) → ◌≡◌ {A = Result A Refusal} (Ok x) (Ok y) → x ≡ y
same_ok x y e = cc

ranged : (least n x : ℕ) → in_range least n ≡ Some x → (nat_le least x && nat_le x LARGEST_ID) ≡ true
ranged least n x e = elim (cases_Bool (nat_le least n && nat_le n LARGEST_ID)) [
  | inl h ↦ subst (λ k. (nat_le least k && nat_le k LARGEST_ID) ≡ true) (same_Some n x (rw h at e)) h
  | inr h ↦ let none : ◌≡◌ {A = Option ℕ} None (Some x) = rw h at e in cc
]

chosen : (least : ℕ) (o : Option ℕ) (x : ℕ) → option_and_then (in_range least) o ≡ Some x → (nat_le least x && nat_le x LARGEST_ID) ≡ true
chosen least None x e = cc
chosen least (Some n) x e = ranged least n x e

positive-is_id : (bytes : List ℕ) (n : ℕ) → positive_number bytes ≡ Some n → is_id n ≡ true
positive-is_id bytes n e = chosen 1 (plain_decimal bytes) n e

id-is_face_id : (bytes : List ℕ) (n : ℕ) → id_number bytes ≡ Some n → is_face_id n ≡ true
id-is_face_id bytes n e = (and_parts _ _ (chosen 0 (plain_decimal bytes) n e)).1

mapped : {A B : Type 0} (f : A → B) (o : Option A) (y : B) → option_map f o ≡ Some y → (x : A) × (o ≡ Some x) × (f x ≡ y)
mapped f None y e = cc
mapped f (Some x) y e = (x, refl, same_Some _ _ e)

signed_in_range : (d : ℤ) (n : ℕ) → edge_of d ≡ n → is_id n ≡ true → is_signed_edge d ≡ true
signed_in_range d n e h = subst (λ k. is_id k ≡ true) (sym e) h

signed-is_signed : (bytes : List ℕ) (d : ℤ) → signed_number bytes ≡ Some d → is_signed_edge d ≡ true
signed-is_signed [] d e = cc
signed-is_signed (b ∷ bytes) d e = elim (cases_Bool (b == 45)) [
  | inl h ↦ let m = mapped (λ n. neg_ℤ (pos n)) (positive_number bytes) d (rw h at e) in
      signed_in_range d m.0 (ap edge_of (sym m.2) ∙ edge_of-neg m.0) (positive-is_id bytes m.0 m.1)
  | inr h ↦ let m = mapped pos (positive_number (b ∷ bytes)) d (rw h at e) in
      signed_in_range d m.0 (ap edge_of (sym m.2)) (positive-is_id (b ∷ bytes) m.0 m.1)
]

-- where a test holds of each number that a spelling has, it holds of a field's
numbered : {X : Type 0} (number : List ℕ → Option X) (P : X → Bool) → ((bytes : List ℕ) (x : X) → number bytes ≡ Some x → P x ≡ true)
    → (t : Table) (l : Line) (c : Column) → IfOk (required number t l c) (λ x. P x ≡ true)
numbered {X = X} number P all t l c = elim (cases_Bool (length (field l c) == 0)) [
  | inl h ↦ rw h tt
  | inr h ↦ rw h (known (number (field l c)) (all (field l c)))
]
  where
    known : (o : Option X) → ((x : X) → o ≡ Some x → P x ≡ true) → IfOk (ok_or_bad t l.row c o) (λ x. P x ≡ true)
    known None all = tt
    known (Some x) all = all x refl

perhaps : (number : List ℕ → Option ℕ) (P : ℕ → Bool) → ((bytes : List ℕ) (x : ℕ) → number bytes ≡ Some x → P x ≡ true)
    → (t : Table) (l : Line) (c : Column) → IfOk (optional number t l c) (λ o. is_none_or P o ≡ true)
perhaps number P all t l c = elim (cases_Bool (length (field l c) == 0)) [
  | inl h ↦ rw h refl
  | inr h ↦ rw h (some (ok_or_bad t l.row c (number (field l c))) (rw h at (numbered number P all t l c)))
]
  where
    some : (r : Result ℕ Refusal) → IfOk r (λ x. P x ≡ true) → IfOk (r >>= λ x. Ok (Some x)) (λ o. is_none_or P o ≡ true)
    some (Ok x) h = h
    some (Err e) h = tt

two : {A B R : Type 0} (P : A → Bool) (Q : B → Bool) (make : A → B → R) (S : R → Bool) → ((a : A) (b : B) → P a ≡ true → Q b ≡ true → S (make a b) ≡ true)
    → (a : Result A Refusal) (b : Result B Refusal) → IfOk a (λ x. P x ≡ true) → IfOk b (λ x. Q x ≡ true) → IfOk (a >>= λ x. b >>= λ y. Ok (make x y)) (λ r. S r ≡ true)
two P Q make S both (Err e) b h k = tt
two P Q make S both (Ok x) (Err e) h k = tt
two P Q make S both (Ok x) (Ok y) h k = both x y h k

positive : (t : Table) (l : Line) (c : Column) → IfOk (required positive_number t l c) (λ x. is_id x ≡ true)
positive t l c = numbered positive_number is_id positive-is_id t l c

face : (t : Table) (l : Line) (c : Column) → IfOk (required id_number t l c) (λ x. is_face_id x ≡ true)
face t l c = numbered id_number is_face_id id-is_face_id t l c

signed : (t : Table) (l : Line) (c : Column) → IfOk (required signed_number t l c) (λ x. is_signed_edge x ≡ true)
signed t l c = numbered signed_number is_signed_edge signed-is_signed t l c

pub node_row-in_range : (l : Line) → IfOk (node_row l) (λ r. (is_id r.id && is_none_or is_face_id r.face) ≡ true)
node_row-in_range l =
    two is_id (is_none_or is_face_id) (λ id face. record { id = id; face = face }) (λ r. is_id r.id && is_none_or is_face_id r.face) (λ a b. and_from _ _) _ _
    (positive table.Node l column.NodeId)
    (perhaps id_number is_face_id id-is_face_id table.Node l column.ContainingFace)

-- an edge of seven parts
seven : (id start end : Result ℕ Refusal) (next_left next_right : Result ℤ Refusal) (left_face right_face : Result ℕ Refusal)
    → IfOk id (λ x. is_id x ≡ true) → IfOk start (λ x. is_id x ≡ true) → IfOk end (λ x. is_id x ≡ true)
    → IfOk next_left (λ x. is_signed_edge x ≡ true) → IfOk next_right (λ x. is_signed_edge x ≡ true)
    → IfOk left_face (λ x. is_face_id x ≡ true) → IfOk right_face (λ x. is_face_id x ≡ true)
    → IfOk (id >>= λ a. start >>= λ b. end >>= λ c. next_left >>= λ d. next_right >>= λ e. left_face >>= λ f. right_face >>= λ g.
    Ok (record { id = a; start = b; end = c; next_left = d; next_right = e; left_face = f; right_face = g })) (λ r. is_edge_in_range r ≡ true)
seven (Err x) b c d e f g h1 h2 h3 h4 h5 h6 h7 = tt
seven (Ok a) (Err x) c d e f g h1 h2 h3 h4 h5 h6 h7 = tt
seven (Ok a) (Ok b) (Err x) d e f g h1 h2 h3 h4 h5 h6 h7 = tt
seven (Ok a) (Ok b) (Ok c) (Err x) e f g h1 h2 h3 h4 h5 h6 h7 = tt
seven (Ok a) (Ok b) (Ok c) (Ok d) (Err x) f g h1 h2 h3 h4 h5 h6 h7 = tt
seven (Ok a) (Ok b) (Ok c) (Ok d) (Ok e) (Err x) g h1 h2 h3 h4 h5 h6 h7 = tt
seven (Ok a) (Ok b) (Ok c) (Ok d) (Ok e) (Ok f) (Err x) h1 h2 h3 h4 h5 h6 h7 = tt
seven (Ok a) (Ok b) (Ok c) (Ok d) (Ok e) (Ok f) (Ok g) h1 h2 h3 h4 h5 h6 h7 =
    and_from _ _ (and_from _ _ (and_from _ _ (and_from _ _ (and_from _ _ (and_from _ _ h1 h2) h3) h4) h5) h6) h7

pub edge_row-in_range : (l : Line) → IfOk (edge_row l) (λ r. is_edge_in_range r ≡ true)
edge_row-in_range l =
    seven _ _ _ _ _ _ _
    (positive table.Edge l column.EdgeId)
    (positive table.Edge l column.StartNode)
    (positive table.Edge l column.EndNode)
    (signed table.Edge l column.NextLeftEdge)
    (signed table.Edge l column.NextRightEdge)
    (face table.Edge l column.LeftFace)
    (face table.Edge l column.RightFace)

pub face_row-in_range : (l : Line) → IfOk (face_row l) (λ r. is_face_id r.id ≡ true)
face_row-in_range l = one _ (face table.Face l column.FaceId)
  where
    one : (id : Result ℕ Refusal) → IfOk id (λ x. is_face_id x ≡ true) → IfOk (id >>= λ a. Ok (record { id = a })) (λ (r : FaceRow). is_face_id r.id ≡ true)
    one (Err e) h = tt
    one (Ok a) h = h

pub region_row-in_range : (l : Line) → IfOk (region_row l) (λ r. (is_id r.id && is_none_or is_id r.parent) ≡ true)
region_row-in_range l =
    two is_id (is_none_or is_id) (λ id parent. record { id = id; parent = parent }) (λ r. is_id r.id && is_none_or is_id r.parent) (λ a b. and_from _ _) _ _
    (positive table.Region l column.RegionId)
    (perhaps positive_number is_id positive-is_id table.Region l column.Parent)

pub member_row-in_range : (l : Line) → IfOk (member_row l) (λ r. (is_id r.region && is_face_id r.face) ≡ true)
member_row-in_range l =
    two is_id is_face_id (λ region face. record { region = region; face = face }) (λ r. is_id r.region && is_face_id r.face) (λ a b. and_from _ _) _ _
    (positive table.Member l column.RegionId)
    (face table.Member l column.FaceId)

-- a row that is read stands within the table's limit
was_read : {R : Type 0} (t : Table) (read : Line → Result R Refusal) (l : Line) (r : R) → row_of t read l ≡ Ok r → (l.row ≤ most_rows t) × (read l ≡ Ok r)
was_read {R = R} t read l r e = elim (cases_Bool (nat_lt (most_rows t) l.row)) [
  | inl h ↦ let none : ◌≡◌ {A = Result R Refusal} (Err (refusal.TooMany t)) (Ok r) = rw h at e in cc
  | inr h ↦ (ltb-false (most_rows t) l.row h, fits (rw h at e))
]
  where
    fits : (if length l.fields == length l.header then read l else Err (refusal.RowShape t l.row (length l.fields) (length l.header))) ≡ Ok r → read l ≡ Ok r
    fits e = elim (cases_Bool (length l.fields == length l.header)) [
      | inl h ↦ rw h at e
      | inr h ↦ let none : ◌≡◌ {A = Result R Refusal} (Err (refusal.RowShape t l.row (length l.fields) (length l.header))) (Ok r) = rw h at e in cc
    ]

-- what holds of each row that is read holds of all, and they are within the limit
pub record AreRead {R : Type 0} (t : Table) (P : R → Bool) (row : ℕ) (rs : List R) : Type 0 where
  pub all : list_all P rs ≡ true
  pub few : row ≤ most_rows t + 1 → row + length rs ≤ most_rows t + 1

rows_from-read : {R : Type 0} (t : Table) (read : Line → Result R Refusal) (P : R → Bool) → ((l : Line) → IfOk (read l) (λ r. P r ≡ true))
    → (header : List (List ℕ)) (row : ℕ) (more : List (List (List ℕ))) (rs : List R) → rows_from t read header row more ≡ Ok rs → AreRead t P row rs
unfolding rows_from
rows_from-read t read P each header row [] rs e = subst (AreRead t P row) (same_ok [] rs e) (record { all = refl; few = λ h. omega arith })
rows_from-read t read P each header row (fields ∷ more) rs e =
    let first = bind-ok _ _ rs e in
    let later = bind-ok _ _ rs first.second in
    let line : Line = record { header = header; row = row; fields = fields } in
    let was = was_read t read line first.value first.first in
    let rest = rows_from-read t read P each header (row + 1) more later.value later.first in
    subst (AreRead t P row) (same_ok _ _ later.second) (record {
      all = and_from _ _ (IfOk-at_ok (λ r. P r ≡ true) was.1 (each line)) rest.all;
      few = λ h. (let least : row ≤ most_rows t = was.0 in let few = rest.few (omega arith) in omega arith);
    })

unless_fault-ok : {A : Type 0} (o : Option Refusal) (read : Result A Refusal) (x : A) → unless_fault o read ≡ Ok x → read ≡ Ok x
unless_fault-ok None read x e = e
unless_fault-ok (Some f) read x e = cc

rows_in-read : {R : Type 0} (t : Table) (read : Line → Result R Refusal) (P : R → Bool) → ((l : Line) → IfOk (read l) (λ r. P r ≡ true))
    → (recs : List (List (List ℕ))) (rs : List R) → rows_in t read recs ≡ Ok rs → AreRead t P 1 rs
rows_in-read t read P each [] rs e = rows_from-read t read P each [] 1 [] rs (unless_fault-ok (header_fault t []) _ rs e)
rows_in-read t read P each (header ∷ more) rs e = rows_from-read t read P each header 1 more rs (unless_fault-ok (header_fault t header) _ rs e)

pub rows-read : {R : Type 0} (t : Table) (read : Line → Result R Refusal) (P : R → Bool) → ((l : Line) → IfOk (read l) (λ r. P r ≡ true))
    → (bytes : List ℕ) (rs : List R) → rows t read bytes ≡ Ok rs → (list_all P rs ≡ true) × (length rs ≤ most_rows t)
rows-read t read P each bytes rs e =
    let are = rows_in-read t read P each (records default_config (strip_bom bytes)) rs e in
    let few = are.few (omega arith) in
    (are.all, omega arith)
