-- Faces by their places among rising ids.
use Rattle.std.proofs.Common.{◌≡◌, ℕ, zero, suc, ◌+◌, ◌<◌, inl, inr, Bool, true, not, ◌==◌, List, [], ◌∷◌, ◌++◌, map, filter, length, take, get_or, refl, ap, ◌∙◌, arith}
use Rattle.std.specs.Prelude.{nat_lt, nat_le, if◌then◌else◌}
use Rattle.std.specs.List.{list_all}
use Rattle.std.proofs.lemmas.Bool.{and_parts, and_from, cases_Bool, cases_lt}
use Rattle.std.proofs.lemmas.Bool.Decides.{nat_tests}
use Rattle.std.proofs.lemmas.List.{take_more, map-append}
use Rattle.orbits.proofs.Lists.{from_filter, apart_kept}
use Rattle.orbits.proofs.Numbers.{same_numbers}
use Rattle.plane_model.specs.declared.rows.FaceRow.{FaceRow}
use Rattle.plane_model.specs.Sets.{is_distinct, put, rising}
use Rattle.plane_model.specs.Orders.{is_strictly_rising}
use Rattle.plane_model.proofs.Sorting.{among, all_from, rising-all, rising_strictly}
use Rattle.islands.proofs.Collected.{has_index}

-- the ids other than 0
abbrev pub other_ids : List FaceRow → List ℕ
other_ids faces = filter (λ f. not (f == 0)) (map (λ r. r.id) faces)

zero_least : (x : ℕ) → nat_le 0 x ≡ true
zero_least x = grind (arith, nat_tests)

put_zero : (xs : List ℕ) → put 0 xs ≡ 0 ∷ xs
unfolding put
put_zero [] = refl
put_zero (x ∷ xs) = rw (zero_least x) refl

pub rising_zero : (xs : List ℕ) → rising (0 ∷ xs) ≡ 0 ∷ rising xs
unfolding rising
rising_zero xs = put_zero (rising xs)

pub ids_rise : (faces : List FaceRow) → is_distinct (map (λ r. r.id) faces) ≡ true → is_strictly_rising (0 ∷ rising (other_ids faces)) ≡ true
ids_rise faces h =
    let ids : List ℕ = map (λ (r : FaceRow). r.id) faces in
    let p : ℕ → Bool = λ f. not (f == 0) in
    and_from (list_all (nat_lt 0) (rising (other_ids faces))) (is_strictly_rising (rising (other_ids faces)))
    (rising-all (nat_lt 0) (other_ids faces) ∙ all_from (nat_lt 0) (other_ids faces) (λ x on. let it = (from_filter same_numbers p ids x on).0 in grind (arith, nat_tests)))
    (rising_strictly (other_ids faces) (apart_kept same_numbers p ids h))

filter_push : (p : ℕ → Bool) (xs : List ℕ) (x : ℕ) → filter p (xs ++ x ∷ []) ≡ filter p xs ++ (if p x then x ∷ [] else [])
filter_push p [] x = elim (cases_Bool (p x)) [ inl e ↦ rw e refl | inr e ↦ rw e refl ]
filter_push p (y ∷ xs) x = elim (cases_Bool (p y)) [ inl e ↦ rw e (ap (λ zs. y ∷ zs) (filter_push p xs x)) | inr e ↦ rw e (filter_push p xs x) ]

-- one more face
pub ids_more : (faces : List FaceRow) (k : ℕ) (d : FaceRow) → k < length faces → other_ids (take (k + 1) faces) ≡ other_ids (take k faces) ++ (if not ((get_or faces k d).id == 0) then (get_or faces k d).id ∷ [] else [])
ids_more faces k d h =
    let p : ℕ → Bool = λ f. not (f == 0) in
    let id = λ (r : FaceRow). r.id in
    let f : FaceRow = get_or faces k d in
    ap other_ids (take_more faces k d h) ∙ ap (filter p) (map-append id (take k faces) (f ∷ [])) ∙ filter_push p (map id (take k faces)) f.id

strict_order : (xs : List ℕ) → is_strictly_rising xs ≡ true → (i j : ℕ) → i < j → j < length xs → get_or xs i 0 < get_or xs j 0
strict_order [] rises i j lt h = absurd (omega arith)
strict_order (x ∷ xs) rises i zero lt h = absurd (omega arith)
strict_order (x ∷ xs) rises zero (suc j) lt h =
    let parts = and_parts (list_all (nat_lt x) xs) (is_strictly_rising xs) rises in
    let it = among (nat_lt x) xs (get_or xs j 0) parts.0 (has_index xs j (omega arith)) in
    grind (arith, nat_tests)
strict_order (x ∷ xs) rises (suc i) (suc j) lt h = strict_order xs (and_parts (list_all (nat_lt x) xs) (is_strictly_rising xs) rises).1 i j (omega arith) (omega arith)

pub places_apart : (xs : List ℕ) → is_strictly_rising xs ≡ true → (i j : ℕ) → i < length xs → j < length xs → get_or xs i 0 ≡ get_or xs j 0 → i ≡ j
places_apart xs rises i j hi hj same = elim (cases_lt i j) [
  | inl less ↦ let lt = strict_order xs rises i j less hj in absurd (omega arith)
  | inr ge ↦ elim (cases_lt j i) [ inl more ↦ (let lt = strict_order xs rises j i more hi in absurd (omega arith)) | inr le ↦ omega arith ]
]
