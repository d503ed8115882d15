-- Ids with their rows, sorted.
use Rattle.std.proofs.Common.{◌≡◌, ℕ, ◌+◌, ◌<◌, ◌≤◌, inl, inr, Bool, true, false, not, ◌&&◌, ltb, ◌==◌, List, [], ◌∷◌, length, get_or, map, refl, sym, ap, ◌∙◌, subst, arith, eq-eqb, Some, None}
use Rattle.std.specs.Prelude.{filter, find, option_map, slice_get}
use Rattle.std.specs.List.{enumerate_from, position_or_len}
use Rattle.std.specs.List.Sorted.{IsNonDecreasing, IsNonDecreasingBy, IsPermutation, IsStableByKey, IsPartitionPoint, ties}
use Rattle.std.specs.Ordering.{nat_cmp, is_lt}
use Rattle.std.proofs.lemmas.Bool.{cases_Bool, cases_lt, cases_order, ne_eqb, lt-ltb, le-ltb, ltb-true, ltb-false}
use Rattle.std.proofs.lemmas.List.{length-map, get_or-map, get_or_default}
use Rattle.std.proofs.lemmas.List.Elements.{filter_agree}
use Rattle.std.proofs.lemmas.List.Folds.{find_at}
use Rattle.std.proofs.lemmas.List.Sums.{position_or_len_is}
use Rattle.std.proofs.lemmas.List.Sorted.{IsPermutation-map}
use Rattle.std.proofs.lemmas.Option.{get_or_from_slice_get, slice_get_past, slice_get_read}
use Rattle.plane_model.specs.Orders.{first_pair}
use Rattle.plane_model.specs.Faults.{least_twice}
use Rattle.plane_model.proofs.Pairs.{twice_in_sorted}
use Rattle.id_index.specs.declared.sparse.Entry.{Entry}
use Rattle.id_index.specs.Rows.{first_row}
use Rattle.id_index.specs.Entries.{entry, ids_of, numbered, row_among}
use Rattle.id_index.proofs.FirstRows.{row_from, first_row-from}

abbrev pub nobody : Entry
nobody = record { id = 0; row = 0 }

-- what is found first is the first that a filter leaves
find-filter : {X : Type 0} (p : X → Bool) (xs : List X) → find p xs ≡ slice_get (filter p xs) 0
find-filter p [] = refl
find-filter p (x ∷ xs) = elim (cases_Bool (p x)) [ inl e ↦ rw e refl | inr e ↦ rw e (find-filter p xs) ]

ties_with : (a b : ℕ) → (b == a) ≡ (not (is_lt (nat_cmp a b)) && not (is_lt (nat_cmp b a)))
ties_with a b = elim (cases_order a b) [
  | inl e ↦ rw (eq-eqb b a (sym e), le-ltb a b (omega arith), le-ltb b a (omega arith), eq-eqb a b e) refl
  | inr o ↦ elim o [
    | inl l ↦ rw (ne_eqb b a (λ e. omega arith), lt-ltb a b l) refl
    | inr l ↦ rw (ne_eqb b a (λ e. omega arith), le-ltb a b (omega arith), ne_eqb a b (λ e. omega arith), lt-ltb b a l) refl
  ]
]

-- so a stable sort keeps the first entry of an id
pub first_kept : (xs ys : List Entry) → IsStableByKey (λ (e : Entry). e.id) nat_cmp xs ys → (id : ℕ) → find (λ e. e.id == id) ys ≡ find (λ e. e.id == id) xs
first_kept xs ys stable id =
    let p : Entry → Bool = λ e. e.id == id in
    let one : Entry = record { id = id; row = 0 } in
    let q : Entry → Bool = ties (λ (x : Entry) (y : Entry). is_lt (nat_cmp x.id y.id)) one in
    let agree : (e : Entry) → p e ≡ q e = λ e. ties_with id e.id in
    find-filter p ys ∙ ap (λ zs. slice_get zs 0) (filter_agree p q agree ys ∙ stable one ∙ sym (filter_agree p q agree xs)) ∙ sym (find-filter p xs)

row_numbered : (k : ℕ) (ids : List ℕ) (id : ℕ) → row_among (map entry (enumerate_from k ids)) id ≡ row_from k ids id
row_numbered k [] id = refl
row_numbered k (x ∷ xs) id = elim (cases_Bool (x == id)) [ inl e ↦ rw e refl | inr e ↦ rw e (row_numbered (k + 1) xs id) ]

pub rows_kept : (ids : List ℕ) (entries : List Entry) → ((id : ℕ) → find (λ e. e.id == id) entries ≡ find (λ e. e.id == id) (numbered ids)) → (id : ℕ) → row_among entries id ≡ first_row ids id
rows_kept ids entries first id = ap (option_map (λ e. e.row)) (first id) ∙ row_numbered 0 ids id ∙ sym (first_row-from ids id)

ids_numbered : (k : ℕ) (ids : List ℕ) → ids_of (map entry (enumerate_from k ids)) ≡ ids
ids_numbered k [] = refl
ids_numbered k (x ∷ xs) = ap (λ ys. x ∷ ys) (ids_numbered (k + 1) xs)

pub same_ids : (ids : List ℕ) (entries : List Entry) → IsPermutation (numbered ids) entries → IsPermutation ids (ids_of entries)
same_ids ids entries same = subst (λ xs. IsPermutation xs (ids_of entries)) (ids_numbered 0 ids) (IsPermutation-map (λ (e : Entry). e.id) (numbered ids) entries same)

pub ids_rise : (entries : List Entry) → IsNonDecreasingBy (λ (e : Entry). e.id) entries → IsNonDecreasing (ids_of entries)
ids_rise entries rising i j d le h =
    let l : j < length entries = rw length-map at h in
    omega (arith, rising i j nobody le l, get_or-map (λ (e : Entry). e.id) entries i nobody d (omega arith), get_or-map (λ (e : Entry). e.id) entries j nobody d l)

pub twice_kept : (ids : List ℕ) (entries : List Entry) → IsPermutation ids (ids_of entries) → IsNonDecreasingBy (λ (e : Entry). e.id) entries → first_pair (ids_of entries) ≡ least_twice ids
twice_kept ids entries same rising = sym (twice_in_sorted ids (ids_of entries) same (ids_rise entries rising))

-- what stands at the place where ids are no longer less
module _ (entries : List Entry) (id place : ℕ) (rising : IsNonDecreasingBy (λ (e : Entry). e.id) entries) (bound : place ≤ length entries) (point : IsPartitionPoint (λ (e : Entry). ltb e.id id ≡ true) (λ (e : Entry). ltb e.id id ≡ false) entries place) where
  abbrev at : ℕ → ℕ
  at k = (get_or entries k nobody).id

  less : (k : ℕ) → k < place → (at k == id) ≡ false
  less k h = let l = ltb-true (at k) id (point.0 k nobody (omega arith) h) in ne_eqb (at k) id (λ e. omega arith)

  pub row_here : (e : Entry) → e ≡ get_or entries place e → e.id ≡ id → place < length entries → row_among entries id ≡ Some e.row
  row_here e read is inside =
      let h : slice_get entries place ≡ Some e = slice_get_read entries (length entries) place e refl inside read in
      let here : get_or entries place nobody ≡ e = get_or_from_slice_get entries place e nobody h in
      let first : position_or_len (λ (x : Entry). x.id == id) entries ≡ place = position_or_len_is (λ (x : Entry). x.id == id) entries place nobody bound less (λ _. eq-eqb (at place) id (ap (λ (x : Entry). x.id) here ∙ is)) in
      ap (option_map (λ (x : Entry). x.row)) (find_at (λ (x : Entry). x.id == id) entries ∙ ap (slice_get entries) first ∙ h)

  nowhere : ((k : ℕ) → k < length entries → (at k == id) ≡ false) → row_among entries id ≡ None
  nowhere none =
      let last : position_or_len (λ (x : Entry). x.id == id) entries ≡ length entries = position_or_len_is (λ (x : Entry). x.id == id) entries (length entries) nobody (omega arith) none (λ h. absurd (omega arith)) in
      ap (option_map (λ (x : Entry). x.row)) (find_at (λ (x : Entry). x.id == id) entries ∙ ap (slice_get entries) last ∙ slice_get_past entries (length entries) (omega arith))

  pub row_past : length entries ≤ place → row_among entries id ≡ None
  row_past h = nowhere (λ k l. less k (omega arith))

  pub row_missing : (e : Entry) → e ≡ get_or entries place e → (e.id ≡ id → ⊥) → place < length entries → row_among entries id ≡ None
  row_missing e read differ inside =
      let here : at place ≡ e.id = ap (λ (x : Entry). x.id) (get_or_default entries place nobody e inside ∙ sym read) in
      let least : id ≤ at place = ltb-false (at place) id (point.1 place nobody (omega arith) inside) in
      nowhere (λ k l. elim (cases_lt k place) [
        | inl before ↦ less k before
        | inr behind ↦ let up = rising place k nobody behind l in ne_eqb (at k) id (λ same. differ (omega arith))
      ])

-- the id of an entry that is read
pub id_read : (entries : List Entry) (k : ℕ) (e : Entry) → k < length entries → e ≡ get_or entries k e → e.id ≡ get_or (ids_of entries) k 0
id_read entries k e h read = ap (λ (x : Entry). x.id) read ∙ sym (get_or-map (λ (x : Entry). x.id) entries k e 0 h)
