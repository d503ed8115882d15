-- The fields of a record one by one.
use Rattle.std.proofs.Common.{◌≡◌, ℕ, zero, suc, ◌+◌, ◌<◌, ◌≤◌, Bool, true, false, List, [], ◌∷◌, ◌++◌, length, drop, take, map, ap, ◌∙◌, refl, sym, arith, Option, Some, None, add-one, ltb, get_or, unwrap_or, option_and_then}
use Rattle.std.specs.List.{position_from, filter, slice_get}
use Rattle.csv.specs.Records.{Row, field_at, field_count, fields_of}
use Rattle.csv.proofs.RecordFacts.{cut-length}
use Rattle.std.proofs.lemmas.List.Sums.{length-filter, count_by-le-length}
use Rattle.std.proofs.lemmas.List.{map-append}
use Rattle.std.proofs.lemmas.Option.{slice_get-map, slice_get-get_or}
use Rattle.std.proofs.lemmas.Bool.Decides.{nat_tests}
use Rattle.topo_csv.specs.Texts.{text_of}
use Rattle.topo_csv.specs.declared.field.Field.{Field}
use Prim.Native.Nat.{◌^◌}

-- from a place on, the field there and those behind it
pub fields_at : (fields : List (List ℕ)) (i : ℕ) (x : List ℕ) → field_at fields i ≡ Some x → drop i fields ≡ x ∷ drop (i + 1) fields
unfolding field_at
fields_at [] i x h = let no : ◌≡◌ {A = Option (List ℕ)} None (Some x) = h in cc
fields_at (f ∷ fields) zero x h = let same : f ≡ x = cc in rw same refl
fields_at (f ∷ fields) (suc i) x h = rw add-one (rw add-one at (fields_at fields i x h))

pub no_fields_at : (fields : List (List ℕ)) (i : ℕ) → field_at fields i ≡ None → drop i fields ≡ []
unfolding field_at
no_fields_at [] zero h = refl
no_fields_at [] (suc i) h = refl
no_fields_at (f ∷ fields) zero h = let no : ◌≡◌ {A = Option (List ℕ)} None (Some f) = sym h in cc
no_fields_at (f ∷ fields) (suc i) h = no_fields_at fields i h

pub field_gets : (fields : List (List ℕ)) (i : ℕ) → field_at fields i ≡ slice_get fields i
unfolding field_at
field_gets [] zero = refl
field_gets [] (suc i) = refl
field_gets (f ∷ fields) zero = refl
field_gets (f ∷ fields) (suc i) = field_gets fields i

-- the fields in front of a place, with the field there, and all of them at the end
pub take_next : (fields : List (List ℕ)) (i : ℕ) (x : List ℕ) → field_at fields i ≡ Some x → take (i + 1) fields ≡ take i fields ++ x ∷ []
unfolding field_at
take_next [] i x h = let no : ◌≡◌ {A = Option (List ℕ)} None (Some x) = h in cc
take_next (f ∷ fields) zero x h = let same : f ≡ x = cc in rw same refl
take_next (f ∷ fields) (suc i) x h = rw add-one (ap (λ l. f ∷ l) (rw add-one at (take_next fields i x h)))

pub take_whole : (fields : List (List ℕ)) (i : ℕ) → field_at fields i ≡ None → take i fields ≡ fields
unfolding field_at
take_whole [] zero h = refl
take_whole [] (suc i) h = refl
take_whole (f ∷ fields) zero h = let no : ◌≡◌ {A = Option (List ℕ)} None (Some f) = sym h in cc
take_whole (f ∷ fields) (suc i) h = ap (λ l. f ∷ l) (take_whole fields i h)

-- one text more
pub one_text : (items : List Field) (f : Field) (fields : List (List ℕ)) (i : ℕ) (x : List ℕ) → map text_of items ≡ take i fields → text_of f ≡ x → field_at fields i ≡ Some x → map text_of (items ++ f ∷ []) ≡ take (i + 1) fields
one_text items f fields i x done text h = map-append text_of items (f ∷ []) ∙ rw (done, text) (sym (take_next fields i x h))

none_behind : {X : Type 0} (xs : List X) (i : ℕ) → length xs ≤ i → slice_get xs i ≡ None
none_behind [] zero le = refl
none_behind [] (suc i) le = refl
none_behind (x ∷ xs) zero le = absurd (omega arith)
none_behind (x ∷ xs) (suc i) le = none_behind xs i (omega arith)

-- the text at a place, or none
pub text_there : (fields : List Field) (place : Option ℕ) (i : ℕ) (f : Field) → Some i ≡ place → ltb i (length fields) ≡ true → f ≡ get_or fields i f
    → text_of f ≡ unwrap_or (option_and_then (slice_get (map text_of fields)) place) []
text_there fields place i f e lt is =
    let less : i < length fields = grind (arith, nat_tests) in
    rw (sym e, slice_get-map text_of fields i, slice_get-get_or fields i f less) (ap text_of is)

pub no_text_there : (fields : List Field) (place : Option ℕ) (i : ℕ) → Some i ≡ place → ltb i (length fields) ≡ false
    → [] ≡ unwrap_or (option_and_then (slice_get (map text_of fields)) place) []
no_text_there fields place i e lt =
    let le : length fields ≤ i = grind (arith, nat_tests) in
    rw (sym e, slice_get-map text_of fields i, none_behind fields i le) refl

-- a search from a place on that finds its field there, goes on behind it, or finds nothing
pub found_at : (p : List ℕ → Bool) (fields : List (List ℕ)) (i : ℕ) (x : List ℕ) (all : Option ℕ) → field_at fields i ≡ Some x → position_from p i (drop i fields) ≡ all → p x ≡ true → Some i ≡ all
found_at p fields i x all h e t = rw (fields_at fields i x h, t) at e

pub found_behind : (p : List ℕ → Bool) (fields : List (List ℕ)) (i : ℕ) (x : List ℕ) (all : Option ℕ) → field_at fields i ≡ Some x → position_from p i (drop i fields) ≡ all → p x ≡ false → position_from p (i + 1) (drop (i + 1) fields) ≡ all
found_behind p fields i x all h e t = rw (fields_at fields i x h, t) at e

pub not_found : (p : List ℕ → Bool) (fields : List (List ℕ)) (i : ℕ) (all : Option ℕ) → field_at fields i ≡ None → position_from p i (drop i fields) ≡ all → None ≡ all
not_found p fields i all h e = rw (no_fields_at fields i h) at e

-- how many fields pass, from a place on and in all
pub count_here : (p : List ℕ → Bool) (fields : List (List ℕ)) (i n all : ℕ) (x : List ℕ) → field_at fields i ≡ Some x → n + length (filter p (drop i fields)) ≡ all → p x ≡ true → n + 1 + length (filter p (drop (i + 1) fields)) ≡ all
count_here p fields i n all x h e t = let more = rw (fields_at fields i x h, t) at e in omega arith

pub count_behind : (p : List ℕ → Bool) (fields : List (List ℕ)) (i n all : ℕ) (x : List ℕ) → field_at fields i ≡ Some x → n + length (filter p (drop i fields)) ≡ all → p x ≡ false → n + length (filter p (drop (i + 1) fields)) ≡ all
count_behind p fields i n all x h e t = rw (fields_at fields i x h, t) at e

pub count_end : (p : List ℕ → Bool) (fields : List (List ℕ)) (i n all : ℕ) → field_at fields i ≡ None → n + length (filter p (drop i fields)) ≡ all → n ≡ all
count_end p fields i n all h e = let less = rw (no_fields_at fields i h) at e in omega arith

-- the next field of an iterator, at its place
pub here : (row names : Row) (at i : ℕ) (o : Option (List ℕ)) → row ≡ names → at ≡ i → o ≡ field_at (fields_of row) at → field_at (fields_of names) i ≡ o
here row names at i o same_row same_at e = rw (same_row, same_at) at (sym e)

pub some_field : (fields : List (List ℕ)) (i : ℕ) (x : List ℕ) → field_at fields i ≡ Some x → i < length fields
unfolding field_at
some_field [] i x h = let no : ◌≡◌ {A = Option (List ℕ)} None (Some x) = h in cc
some_field (f ∷ fields) zero x h = omega arith
some_field (f ∷ fields) (suc i) x h = let less = some_field fields i x h in omega arith

-- a field that is there is one of the record's
pub within : (row : Row) (i : ℕ) (x : List ℕ) → field_at (fields_of row) i ≡ Some x → i < field_count row
within row i x h = rw (cut-length 0 row.ends row.bytes) at (some_field (fields_of row) i x h)

-- no more fields pass than a record has
pub few_fields : (p : List ℕ → Bool) (row : Row) → field_count row < 2 ^ 64 → length (filter p (fields_of row)) < 2 ^ 64
few_fields p row h = omega (arith, length-filter p (fields_of row), count_by-le-length p (fields_of row), cut-length 0 row.ends row.bytes)
