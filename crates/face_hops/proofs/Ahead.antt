-- The first place across the edges of a face that is one move nearer to the end of a way is where the way goes on.
use Rattle.std.specs.Prelude.{slice_index, map, filter, not, find, option_map}
use Rattle.std.proofs.Common.{◌≡◌, ℕ, suc, ◌+◌, ◌-◌, ◌<◌, ◌≤◌, inl, inr, Bool, true, false, ◌==◌, List, [], ◌∷◌, length, refl, sym, ap, ◌∙◌, subst, arith, Option, Some, None}
use Rattle.std.proofs.lemmas.Bool.{cases_Bool, cases_eq, eqb-true, eq-eqb, or_cases, or_left, or_right, both_ways, false_from_ne_true}
use Rattle.orbits.proofs.Lists.{same_tests}
use Rattle.plane_model.specs.Sets.{has, first_occurrences_but}
use Rattle.plane_model.specs.PlaneMap.{PlaneMap}
use Rattle.plane_model.specs.Lists.{face_edges, adjacent}
use Rattle.plane_model.specs.Hops.{is_within, distance, hops, hops_in}
use Rattle.file_laws.specs.Contents.{Contents}
use Rattle.file_laws.specs.MapOfFile.{signed_at, face_at_place}
use Rattle.file_laws.specs.Lawful.{is_whole}
use Rattle.navigate.specs.Bound.{map_with}
use Rattle.navigate.specs.Beside.{place_across, others, adjacent_places}
use Rattle.navigate.proofs.Facts.{few_faces}
use Rattle.face_hops.specs.Distances.{as_number, AreDistances}
use Rattle.face_hops.specs.Way.{GoesOnAt}
use Rattle.face_hops.proofs.PathLaws.{within-step, distance_is, distance_first}
use Rattle.face_hops.proofs.Ways.{goes_on, nearest, nearest_of, hops_at, hops_more}
use Rattle.face_hops.proofs.Across.{named_across, beside_or_own}
use Rattle.face_hops.proofs.MapFacts.{beside-known, all_low, as_many}

-- finding

find-filter : (p q : ℕ → Bool) (xs : List ℕ) → ((x : ℕ) → q x ≡ false → p x ≡ false) → find p (filter q xs) ≡ find p xs
find-filter p q [] off = refl
find-filter p q (x ∷ xs) off = elim (cases_Bool (q x)) [
  | inl e ↦ elim (cases_Bool (p x)) [
    | inl k ↦ rw (e, k) refl
    | inr k ↦ rw (e, k) (find-filter p q xs off)
  ]
  | inr e ↦ rw (e, off x e) (find-filter p q xs off)
]

find-occurrences : (p : ℕ → Bool) (seen xs : List ℕ) → ((x : ℕ) → has seen x ≡ true → p x ≡ false) → find p (first_occurrences_but seen xs) ≡ find p xs
find-occurrences p seen [] off = refl
find-occurrences p seen (x ∷ xs) off = elim (cases_Bool (has seen x)) [
  | inl e ↦ rw (e, off x e) (find-occurrences p seen xs off)
  | inr e ↦ elim (cases_Bool (p x)) [
    | inl k ↦ rw (e, k) refl
    | inr k ↦ rw (e, k) (find-occurrences p (x ∷ seen) xs (λ y on. elim (or_cases (y == x) (has seen y) on) [
      | inl is ↦ subst (λ z. p z ≡ false) (sym (eqb-true y x is)) k
      | inr more ↦ off y more
    ]))
  ]
]

find-map : (p : ℕ → Bool) (g : ℕ → ℕ) (xs : List ℕ) → find p (map g xs) ≡ option_map g (find (λ x. p (g x)) xs)
find-map p g [] = refl
find-map p g (x ∷ xs) = elim (cases_Bool (p (g x))) [ inl e ↦ rw e refl | inr e ↦ rw e (find-map p g xs) ]

find-same : (p q : ℕ → Bool) (xs : List ℕ) → ((x : ℕ) → has xs x ≡ true → p x ≡ q x) → find p xs ≡ find q xs
find-same p q [] same = refl
find-same p q (x ∷ xs) same =
    let here = same x (or_left (x == x) (has xs x) (eq-eqb x x refl)) in
    let more = find-same p q xs (λ y on. same y (or_right (y == x) (has xs y) on)) in
    elim (cases_Bool (q x)) [ inl e ↦ let k : p x ≡ true = here ∙ e in rw (e, k) refl | inr e ↦ let k : p x ≡ false = here ∙ e in rw (e, k) more ]

pub found_in : (p : ℕ → Bool) (xs : List ℕ) (x : ℕ) → find p xs ≡ Some x → (has xs x ≡ true) × (p x ≡ true)
found_in p [] x h = cc
found_in p (y ∷ ys) x h = elim (cases_Bool (p y)) [
  | inl e ↦
      let some : Some y ≡ Some x = rw e at h in
      let is : y ≡ x = cc in
      (or_left (x == y) _ (eq-eqb x y (sym is)), subst (λ z. p z ≡ true) is e)
  | inr e ↦
      let more : find p ys ≡ Some x = rw e at h in
      let r = found_in p ys x more in
      (or_right (x == y) _ r.0, r.1)
]

-- across the edges at positions
pub found_here : (c : Contents) (p : ℕ → Bool) (xs ys : List ℕ) (x q : ℕ) → xs ≡ x ∷ ys → q ≡ place_across c x → p q ≡ true → find p (map (place_across c) xs) ≡ Some q
found_here c p xs ys x q e f t =
    let all : map (place_across c) xs ≡ q ∷ map (place_across c) ys = ap (map (place_across c)) e ∙ ap (λ y. y ∷ map (place_across c) ys) (sym f) in
    let here : find p (q ∷ map (place_across c) ys) ≡ Some q = rw t refl in
    ap (find p) all ∙ here

pub passed_by : (c : Contents) (p : ℕ → Bool) (xs ys : List ℕ) (x q : ℕ) → xs ≡ x ∷ ys → q ≡ place_across c x → p q ≡ false → find p (map (place_across c) ys) ≡ find p (map (place_across c) xs)
passed_by c p xs ys x q e f t =
    let all : map (place_across c) xs ≡ q ∷ map (place_across c) ys = ap (map (place_across c)) e ∙ ap (λ y. y ∷ map (place_across c) ys) (sym f) in
    let past : find p (q ∷ map (place_across c) ys) ≡ find p (map (place_across c) ys) = rw t refl in
    sym (ap (find p) all ∙ past)

pub none_left : (c : Contents) (p : ℕ → Bool) (xs : List ℕ) → xs ≡ [] → find p (map (place_across c) xs) ≡ None
none_left c p xs e = ap (λ ys. find p (map (place_across c) ys)) e

few_moves : (m : PlaneMap) (f g : ℕ) (o : Option ℕ) → distance m f g ≡ o → as_number o ≤ length m.faces + 2
few_moves m f g None e = omega arith
few_moves m f g (Some k) e = let up = (distance_first m f g k e).low in omega (arith, up)

-- numbers are small
pub small_number : (c : Contents) → is_whole c ≡ true → (to place : ℕ) (ds : List ℕ) → AreDistances c to ds → place ≤ length c.faces → slice_index ds place ≤ 16777218
small_number c h to place ds right low =
    let is = right.each place low in
    let few = few_moves (map_with c) (face_at_place c place) (face_at_place c to) (distance (map_with c) (face_at_place c place) (face_at_place c to)) refl in
    let many = as_many c h in
    let all = few_faces c h in
    omega (arith, is, few, many, all)

some_number : (o : Option ℕ) (n : ℕ) → as_number o ≡ n + 1 → o ≡ Some n
some_number None n e = absurd (omega (arith, e))
some_number (Some k) n e = let is : k ≡ n = omega (arith, e) in ap Some is

module _ (c : Contents) (h : is_whole c ≡ true) (to place : ℕ) (ds ps : List ℕ) (right : AreDistances c to ds) (low : place ≤ length c.faces)
    (within : (x : ℕ) → has ps x ≡ true → x < length c.code.a) (edges : map (signed_at c) ps ≡ face_edges (map_with c) (face_at_place c place)) where
  abbrev m : PlaneMap
  m = map_with c

  abbrev face : ℕ → ℕ
  face p = face_at_place c p

  abbrev qs : List ℕ
  qs = map (place_across c) ps

  named : map face (adjacent_places c place ps) ≡ adjacent m (face place)
  named = named_across c h place ps low within edges

  -- the number that is one lower
  nearer_test : (n q : ℕ) → distance m (face place) (face to) ≡ Some (suc n) → has qs q ≡ true → is_within n m (face q) (face to) ≡ (slice_index ds q + 1 == slice_index ds place)
  nearer_test n q e on =
      let near = nearest m (face place) (face to) (suc n) e in
      let first = distance_first m (face place) (face to) (suc n) e in
      let up = first.low in
      let q_low = all_low c h ps within q on in
      let number : slice_index ds place ≡ suc n + 1 = right.each place low ∙ ap as_number e in
      let q_number = right.each q q_low in
      same_tests (is_within n m (face q) (face to)) (slice_index ds q + 1 == slice_index ds place)
      (λ t.
      let k = nearest_of m (face to) (beside-known c h) n (face q) t in
      let few = k.1 in
      let k_is = distance_is m (face q) (face to) k.0 (omega (arith, few, up)) k.2.here k.2.before in
      let its : slice_index ds q ≡ k.0 + 1 = q_number ∙ ap as_number k_is in
      elim (cases_eq k.0 n) [
        | inl same ↦ eq-eqb (slice_index ds q + 1) (slice_index ds place) (omega (arith, same, its, number))
        | inr other ↦ elim (beside_or_own c h place ps low within edges q on) [
          | inl own ↦ absurd (both_ways (is_within k.0 m (face place) (face to)) (near.before k.0 (omega (arith, few))) (subst (λ z. is_within k.0 m (face z) (face to) ≡ true) own k.2.here))
          | inr beside ↦ absurd (both_ways (is_within (suc k.0) m (face place) (face to)) (near.before (suc k.0) (omega (arith, few, other))) (within-step k.0 m (face place) (face q) (face to) beside k.2.here))
        ]
      ])
      (λ t.
      let same = eqb-true (slice_index ds q + 1) (slice_index ds place) t in
      let its : as_number (distance m (face q) (face to)) ≡ n + 1 = sym q_number ∙ omega (arith, same, number) in
      (nearest m (face q) (face to) n (some_number (distance m (face q) (face to)) n its)).here)

  -- the first that passes, by places and by faces
  same_first : (n : ℕ) → distance m (face place) (face to) ≡ Some (suc n)
      → find (λ x. is_within n m x (face to)) (adjacent m (face place)) ≡ option_map face (find (λ q. slice_index ds q + 1 == slice_index ds place) qs)
  same_first n e =
      let test = λ (x : ℕ). is_within n m x (face to) in
      let off : is_within n m (face place) (face to) ≡ false = (nearest m (face place) (face to) (suc n) e).before n (omega arith) in
      let passed : (x : ℕ) → not (x == place) ≡ false → test (face x) ≡ false
      = λ x k. subst (λ z. is_within n m (face z) (face to) ≡ false) (sym (eqb-true x place (Rattle.std.proofs.lemmas.Bool.not-false (x == place) k))) off in
      ap (find test) (sym named) ∙ find-map test face (adjacent_places c place ps)
      ∙ ap (option_map face) (find-occurrences (λ x. test (face x)) [] (others place qs) (λ x k. absurd (both_ways false refl k)) ∙ find-filter (λ x. test (face x)) (λ g. not (g == place)) qs passed
      ∙ find-same (λ x. test (face x)) (λ q. slice_index ds q + 1 == slice_index ds place) qs (λ q on. nearer_test n q e on))

  further : 1 < slice_index ds place → (n : ℕ) × (distance m (face place) (face to) ≡ Some (suc n))
  further l =
      let n = slice_index ds place - 2 in
      let is : slice_index ds place ≡ suc n + 1 = omega (arith, l) in
      (n, some_number (distance m (face place) (face to)) (suc n) (sym (right.each place low) ∙ is))

  -- so the way goes on at the first place
  pub goes_on_at : (q : ℕ) → 1 < slice_index ds place → find (λ q. slice_index ds q + 1 == slice_index ds place) qs ≡ Some q → (q ≤ length c.faces) × GoesOnAt c to place q
  goes_on_at q l found =
      let far = further l in
      let n = far.0 in
      let near = nearest m (face place) (face to) (suc n) far.1 in
      let first = distance_first m (face place) (face to) (suc n) far.1 in
      let up = first.low in
      let on = goes_on m (face to) n (face place) near in
      let both : Some on.next ≡ Some (face q) = sym on.found ∙ same_first n far.1 ∙ ap (option_map face) found in
      let is : on.next ≡ face q = cc in
      let after : distance m on.next (face to) ≡ Some n = distance_is m on.next (face to) n (omega (arith, up)) on.nearest.here on.nearest.before in
      let whole : hops m (face place) (face to) ≡ face place ∷ hops_in n m on.next (face to) = hops_at m (face place) (face to) (suc n) far.1 ∙ hops_more m (face to) n (face place) on.next on.found in
      let later : hops m on.next (face to) ≡ hops_in n m on.next (face to) = hops_at m on.next (face to) n after in (
        all_low c h ps within q (found_in (λ q. slice_index ds q + 1 == slice_index ds place) qs q found).0,
        whole ∙ ap (λ xs. face place ∷ xs) (sym later) ∙ ap (λ x. face place ∷ hops m x (face to)) is,
      )

  -- and there is one
  pub some_ahead : 1 < slice_index ds place → find (λ q. slice_index ds q + 1 == slice_index ds place) qs ≡ None → ⊥
  some_ahead l none =
      let far = further l in
      let on = goes_on m (face to) far.0 (face place) (nearest m (face place) (face to) (suc far.0) far.1) in
      let both : Some on.next ≡ None = sym on.found ∙ same_first far.0 far.1 ∙ ap (option_map face) none in
      cc

-- at the end the way is the last face alone
pub at_end : (c : Contents) (to place : ℕ) → distance (map_with c) (face_at_place c place) (face_at_place c to) ≡ Some 0 → hops (map_with c) (face_at_place c place) (face_at_place c to) ≡ face_at_place c place ∷ []
at_end c to place e = hops_at (map_with c) (face_at_place c place) (face_at_place c to) 0 e
