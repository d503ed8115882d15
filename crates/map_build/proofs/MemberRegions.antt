-- The regions of faces by number, member by member.
use Rattle.std.specs.Prelude.{map, slice_index, unwrap_or, replicate}
use Rattle.std.proofs.Common.{◌≡◌, ℕ, zero, suc, ◌+◌, ◌<◌, inl, inr, true, false, not, ◌==◌, List, [], ◌∷◌, ◌++◌, take, set, length, get_or, refl, ap, sym, ◌∙◌, arith, subst, add-one}
use Rattle.std.proofs.lemmas.Bool.{cases_Bool, cases_eq, and_parts, eqb-true, eq-eqb, ne_eqb, or_left, or_right, not-true, both_ways, false_from_ne_true}
use Rattle.std.proofs.lemmas.List.{length-set, get_or-set_same, get_or-set_other, take_more}
use Rattle.topo_base.specs.declared.id.TheConstants.{LARGEST_ID}
use Rattle.plane_model.specs.Sets.{has, is_distinct}
use Rattle.id_names.specs.Names.{AreDistinctIds}
use Rattle.region_tree.specs.declared.parts.MemberPlace.{MemberPlace}
use Rattle.map_build.specs.Made.{place_of}
use Rattle.map_build.specs.Placed.{IsKnown, member_region}
use Rattle.map_build.proofs.Flats.{length-map, map_at}
use Rattle.map_build.proofs.Orders.{same_items}
use Rattle.map_build.proofs.Shells.{number_there}

-- the place of a known face
pub place_there : (faces : List ℕ) (f : ℕ) → IsKnown faces f → (place_of faces f < length (0 ∷ faces)) × (slice_index (0 ∷ faces) (place_of faces f) ≡ f)
place_there faces f known =
    elim (cases_eq f 0) [
      | inl z ↦ let at : place_of faces f ≡ 0 = rw z refl in (omega (arith, at), ap (slice_index (0 ∷ faces)) at ∙ sym z)
      | inr n ↦
          let there : has faces f ≡ true = elim known [ inl z ↦ absurd (n z) | inr h ↦ h ] in
          let k = number_there faces f there in
          let at : place_of faces f ≡ suc k.0 = rw (ne_eqb f 0 n) (ap (λ o. unwrap_or o 0 + 1) k.1 ∙ add-one k.0) in
          (omega (arith, at, k.2), ap (slice_index (0 ∷ faces)) at ∙ k.3)
    ]

-- no face stands twice among face 0 and these
faces_once : (faces : List ℕ) → AreDistinctIds (LARGEST_ID + 1) faces → (i j : ℕ) → i < length (0 ∷ faces) → j < length (0 ∷ faces) → slice_index (0 ∷ faces) i ≡ slice_index (0 ∷ faces) j → i ≡ j
faces_once faces names zero zero l k e = refl
faces_once faces names zero (suc j) l k e = let low = (names.in_range j (omega (arith, k))).0 in absurd (omega (arith, low, e))
faces_once faces names (suc i) zero l k e = let low = (names.in_range i (omega (arith, l))).0 in absurd (omega (arith, low, e))
faces_once faces names (suc i) (suc j) l k e = let same = names.distinct i j (omega (arith, l)) (omega (arith, k)) e in omega (arith, same)

abbrev faces_of : List MemberPlace → List ℕ
faces_of ms = map (λ (p : MemberPlace). p.face) ms

-- one member more
member_here : (ms : List MemberPlace) (p : MemberPlace) → has (faces_of ms) p.face ≡ false → member_region (ms ++ p ∷ []) p.face ≡ p.region + 1
member_here [] p h = rw (eq-eqb p.face p.face refl) refl
member_here (q ∷ ms) p h =
    let other : (q.face == p.face) ≡ false = false_from_ne_true _ (λ is. both_ways _ h (or_left _ _ (eq-eqb p.face q.face (sym (eqb-true _ _ is))))) in
    let more : has (faces_of ms) p.face ≡ false = false_from_ne_true _ (λ is. both_ways _ h (or_right _ _ is)) in
    rw other (member_here ms p more)

member_past : (ms : List MemberPlace) (p : MemberPlace) (f : ℕ) → (p.face == f) ≡ false → member_region (ms ++ p ∷ []) f ≡ member_region ms f
member_past [] p f other = rw other refl
member_past (q ∷ ms) p f other = elim (cases_Bool (q.face == f)) [ inl is ↦ rw is refl | inr differs ↦ rw differs (member_past ms p f other) ]

-- members before one are of other faces
face_has : (ms : List MemberPlace) (i : ℕ) (d : MemberPlace) → i < length ms → has (faces_of ms) (get_or ms i d).face ≡ true
face_has [] i d l = absurd (omega (arith, l))
face_has (p ∷ ms) zero d l = or_left _ _ (eq-eqb p.face p.face refl)
face_has (p ∷ ms) (suc i) d l = or_right _ _ (face_has ms i d (omega (arith, l)))

before_apart : (ms : List MemberPlace) (i : ℕ) (d : MemberPlace) → i < length ms → is_distinct (faces_of ms) ≡ true → has (faces_of (take i ms)) (get_or ms i d).face ≡ false
before_apart [] i d l apart = absurd (omega (arith, l))
before_apart (p ∷ ms) zero d l apart = refl
before_apart (p ∷ ms) (suc i) d l apart =
    let parts = and_parts (not (has (faces_of ms) p.face)) (is_distinct (faces_of ms)) apart in
    let i_in : i < length ms = omega (arith, l) in
    let other : ((get_or ms i d).face == p.face) ≡ false = false_from_ne_true _ (λ is. both_ways _ (not-true _ parts.0) (subst (λ f. has (faces_of ms) f ≡ true) (eqb-true _ _ is) (face_has ms i d i_in))) in
    rw other (before_apart ms i d i_in parts.1)

-- the list after a member is written
pub member_written : (faces : List ℕ) (members : List MemberPlace) (i : ℕ) (d : MemberPlace) (place : ℕ) (before : List ℕ)
    → AreDistinctIds (LARGEST_ID + 1) faces → is_distinct (faces_of members) ≡ true → i < length members → IsKnown faces (get_or members i d).face → place ≡ place_of faces (get_or members i d).face
    → before ≡ map (member_region (take i members)) (0 ∷ faces) → set before place ((get_or members i d).region + 1) ≡ map (member_region (take (i + 1) members)) (0 ∷ faces)
member_written faces members i d place before names apart l known at all =
    let p = get_or members i d in
    let ms = take i members in
    let all_faces : List ℕ = 0 ∷ faces in
    let k = place_there faces p.face known in
    let next : take (i + 1) members ≡ ms ++ p ∷ [] = take_more members i d l in
    let there : place < length before = (let b = ap length all in let n = length-map (member_region ms) all_faces in omega (arith, at, k.0, b, n)) in
    let here : slice_index all_faces place ≡ p.face = ap (slice_index all_faces) at ∙ k.1 in
    let n = length-set before place (p.region + 1) in
    let m = length-map (member_region (ms ++ p ∷ [])) all_faces in
    let b = ap length all ∙ length-map (member_region ms) all_faces in
    same_items (set before place (p.region + 1)) (map (member_region (ms ++ p ∷ [])) all_faces) 0 (omega (arith, n, m, b)) (λ x q.
    let x_in : x < length all_faces = omega (arith, q, n, b) in
    let right = map_at (member_region (ms ++ p ∷ [])) all_faces x x_in in
    elim (cases_eq x place) [
      | inl is ↦
          let face : slice_index all_faces x ≡ p.face = ap (slice_index all_faces) is ∙ here in
          ap (λ y. get_or (set before place (p.region + 1)) y 0) is ∙ get_or-set_same before place (p.region + 1) 0 there
          ∙ sym (right ∙ ap (member_region (ms ++ p ∷ [])) face ∙ member_here ms p (before_apart members i d l apart))
      | inr differ ↦
          let other : (p.face == slice_index all_faces x) ≡ false = ne_eqb _ _ (λ e. differ (faces_once faces names x place x_in (omega (arith, there, b)) (sym e ∙ sym here))) in
          get_or-set_other before place x (p.region + 1) 0 differ ∙ ap (λ xs. get_or xs x 0) all ∙ map_at (member_region ms) all_faces x x_in ∙ sym (right ∙ member_past ms p (slice_index all_faces x) other)
    ]) ∙ ap (λ ps. map (member_region ps) all_faces) (sym next)

-- before any member
pub no_members : (faces : List ℕ) → replicate (length faces) 0 ≡ map (member_region []) faces
no_members [] = refl
no_members (f ∷ fs) = ap (λ xs. 0 ∷ xs) (no_members fs)

pub no_members_yet : (faces regions : List ℕ) (n : ℕ) → n ≡ length faces + 1 → regions ≡ replicate n 0 → regions ≡ map (member_region []) (0 ∷ faces)
no_members_yet faces regions n e all = all ∙ ap (λ k. replicate k 0) (e ∙ add-one (length faces)) ∙ no_members (0 ∷ faces)

-- a place is in the list
pub place_within : (faces : List ℕ) (f place n : ℕ) → IsKnown faces f → place ≡ place_of faces f → n ≡ length (0 ∷ faces) → place < n
place_within faces f place n known at e = let k = place_there faces f known in omega (arith, at, e, k.0)
