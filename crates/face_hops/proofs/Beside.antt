-- Which signed edges a face has, and which faces lie beside it: each of two adjacent faces is beside the other.
use Rattle.std.specs.Prelude.{find, flat_map}
use Rattle.std.proofs.Common.{◌≡◌, ℕ, ℤ, inl, inr, Bool, true, false, not, ◌||◌, ◌&&◌, ◌==◌, if◌then◌else◌, List, [], ◌∷◌, map, filter, refl, sym, ap, ◌∙◌, subst, Option, Some, None, eq-eqb}
use Rattle.std.specs.List.{list_all}
use Rattle.std.proofs.lemmas.Bool.{cases_Bool, eqb-true, ne_eqb, or_cases, or_left, or_right, and_from, and_parts, both_ways, not-true, eqb-false}
use Rattle.topo_base.specs.SignedEdge.{reverse, same_edge}
use Rattle.orbits.proofs.Lists.{in_filter, from_filter, in_either, in_front, in_back, among}
use Rattle.orbits.proofs.Numbers.{same_numbers}
use Rattle.plane_model.specs.Rows.{Rows}
use Rattle.plane_model.specs.Sets.{has, has_edge, first_occurrences_but}
use Rattle.plane_model.specs.PlaneMap.{PlaneMap, map_of, signed_edges, side, ring, rings}
use Rattle.plane_model.specs.Rotation.{is_face, has_faces, is_face_or_none, node_face}
use Rattle.plane_model.specs.Faces.{is_placed, is_outer, outer_rings}
use Rattle.plane_model.specs.Lists.{holes, shell, ring_if_some, face_edges, adjacent}
use Rattle.plane_model.proofs.SetLaws.{same_edges, same_is, same_self}
use Rattle.plane_model.proofs.RotationOrbits.{reverse-reverse, signed-reverse}
use Rattle.plane_model.proofs.Sums.{into_flat, from_flat}
use Rattle.placement_laws.specs.Placing.{IsLabelledRotation, IsPlacing}
use Rattle.placement_laws.proofs.Parts.{HasParts, parts_of, ring_name, ring_name-on, ring_name-same, ring_name-there, ring_alike, ring_within, ring_side, rings-signed}
use Rattle.placement_laws.proofs.Placed.{placing_of}
use Rattle.placement_laws.proofs.Found.{either_found}
use Rattle.placement_laws.proofs.Tables.{face_0_none}

-- lists

pub found : (p : ℤ → Bool) (xs : List ℤ) (x : ℤ) → find p xs ≡ Some x → (has_edge xs x ≡ true) × (p x ≡ true)
found p [] x h = cc
found p (y ∷ ys) x h = elim (cases_Bool (p y)) [
  | inl e ↦
      let some : Some y ≡ Some x = rw e at h in
      let is : y ≡ x = cc in
      (or_left (same_edge x y) _ (subst (λ z. same_edge x z ≡ true) (sym is) (same_self x)), subst (λ z. p z ≡ true) is e)
  | inr e ↦
      let more : find p ys ≡ Some x = rw e at h in
      let r = found p ys x more in
      (or_right (same_edge x y) _ r.0, r.1)
]

from_map : (g : ℤ → ℕ) (ds : List ℤ) (x : ℕ) → has (map g ds) x ≡ true → (d : ℤ) × (has_edge ds d ≡ true) × (g d ≡ x)
from_map g [] x h = absurd (both_ways false refl h)
from_map g (d ∷ ds) x h = elim (or_cases (x == g d) (has (map g ds) x) h) [
  | inl e ↦ (d, or_left (same_edge d d) _ (same_self d), sym (eqb-true x (g d) e))
  | inr more ↦ let r = from_map g ds x more in (r.0, or_right (same_edge r.0 d) _ r.1, r.2)
]

into_map : (g : ℤ → ℕ) (ds : List ℤ) (d : ℤ) → has_edge ds d ≡ true → has (map g ds) (g d) ≡ true
into_map g [] d h = absurd (both_ways false refl h)
into_map g (e ∷ ds) d h = elim (or_cases (same_edge d e) (has_edge ds d) h) [
  | inl is ↦ or_left (g d == g e) _ (eq-eqb (g d) (g e) (ap g (same_is d e is)))
  | inr more ↦ or_right (g d == g e) _ (into_map g ds d more)
]

pub from_occurrences : (seen xs : List ℕ) (j : ℕ) → has (first_occurrences_but seen xs) j ≡ true → has xs j ≡ true
from_occurrences seen [] j h = h
from_occurrences seen (x ∷ xs) j h = elim (cases_Bool (has seen x)) [
  | inl e ↦
      let more : has (first_occurrences_but seen xs) j ≡ true = rw e at h in
      or_right (j == x) (has xs j) (from_occurrences seen xs j more)
  | inr e ↦
      let split : ((j == x) || has (first_occurrences_but (x ∷ seen) xs) j) ≡ true = rw e at h in
      elim (or_cases (j == x) (has (first_occurrences_but (x ∷ seen) xs) j) split) [
        | inl is ↦ or_left (j == x) (has xs j) is
        | inr more ↦ or_right (j == x) (has xs j) (from_occurrences (x ∷ seen) xs j more)
      ]
]

pub into_occurrences : (seen xs : List ℕ) (j : ℕ) → has seen j ≡ false → has xs j ≡ true → has (first_occurrences_but seen xs) j ≡ true
into_occurrences seen [] j off h = h
into_occurrences seen (x ∷ xs) j off h = elim (cases_Bool (has seen x)) [
  | inl e ↦ elim (or_cases (j == x) (has xs j) h) [
    | inl is ↦ absurd (both_ways (has seen j) off (subst (λ z. has seen z ≡ true) (sym (eqb-true j x is)) e))
    | inr more ↦ rw e (into_occurrences seen xs j off more)
  ]
  | inr e ↦ elim (cases_Bool (j == x)) [
    | inl is ↦ rw e (or_left (j == x) _ is)
    | inr differs ↦
        let more : has xs j ≡ true = rw differs at h in
        let fresh : has (x ∷ seen) j ≡ false = rw differs off in
        rw e (or_right (j == x) _ (into_occurrences (x ∷ seen) xs j fresh more))
  ]
]

module _ (t : Rows) (h : IsLabelledRotation t) (settled : is_placed (map_of t) ≡ true) where
  abbrev m : PlaneMap
  m = map_of t

  parts : HasParts m
  parts = parts_of t h

  placing : IsPlacing m (outer_rings m)
  placing = placing_of t h settled

  ring_has : (d : ℤ) → has_edge (signed_edges m) d ≡ true → has_edge (ring m (ring_name m d)) d ≡ true
  ring_has d signed =
      let r = ring_name m d in
      let on = ring_name-on m parts d signed in
      ring_alike m parts r d (ring_within m parts d r signed on) signed ∙ ap (λ z. same_edge z (ring_name m d)) (ring_name-same m parts d r signed on) ∙ same_self (ring_name m d)

  from_ring : (f : ℕ) (r d : ℤ) → has_edge (rings m) r ≡ true → side m r ≡ f → has_edge (ring m r) d ≡ true → (has_edge (signed_edges m) d ≡ true) × (side m d ≡ f)
  from_ring f r d there e on = let s = rings-signed m r there in (ring_within m parts r d s on, ring_side m parts r d s on ∙ e)

  from_shell : (f : ℕ) (o : Option ℤ) (d : ℤ) → shell m f ≡ o → has_edge (ring_if_some m o) d ≡ true → (has_edge (signed_edges m) d ≡ true) × (side m d ≡ f)
  from_shell f None d e on = absurd (both_ways false refl on)
  from_shell f (Some r) d e on =
      let it = found (λ r. (side m r == f) && not (is_outer m r)) (rings m) r e in
      from_ring f r d it.0 (eqb-true (side m r) f (and_parts (side m r == f) (not (is_outer m r)) it.1).0) on

  from_front : (f : ℕ) (b : Bool) (d : ℤ) → has_edge (if b then [] else ring_if_some m (shell m f)) d ≡ true → (has_edge (signed_edges m) d ≡ true) × (side m d ≡ f)
  from_front f true d on = absurd (both_ways false refl on)
  from_front f false d on = from_shell f (shell m f) d refl on

  -- the signed edges of a face are those that have it on their left
  pub of_face : (f : ℕ) (d : ℤ) → has_edge (face_edges m f) d ≡ true → (has_edge (signed_edges m) d ≡ true) × (side m d ≡ f)
  of_face f d on = elim (in_either same_edges (if f == 0 then [] else ring_if_some m (shell m f)) (flat_map (ring m) (holes m f)) d on) [
    | inl front ↦ from_front f (f == 0) d front
    | inr back ↦
        let r = from_flat (ring m) (holes m f) d back in
        let it = from_filter same_edges (λ r. (side m r == f) && is_outer m r) (rings m) r.0 r.1 in
        from_ring f r.0 d it.1 (eqb-true (side m r.0) f (and_parts (side m r.0 == f) (is_outer m r.0) it.0).0) r.2
  ]

  pub on_face : (f : ℕ) (d : ℤ) → has_edge (signed_edges m) d ≡ true → side m d ≡ f → has_edge (face_edges m f) d ≡ true
  on_face f d signed e =
      let r = ring_name m d in
      let there = ring_name-there m parts d signed in
      let on = ring_has d signed in
      let its_side : side m r ≡ f = ring_side m parts d r signed (ring_name-on m parts d signed) ∙ e in
      elim (either_found m parts placing r there) [
        | inl out ↦
            in_back same_edges (if f == 0 then [] else ring_if_some m (shell m f)) (flat_map (ring m) (holes m f)) d
            (into_flat (ring m) (holes m f) r d (in_filter same_edges (λ r. (side m r == f) && is_outer m r) (rings m) r (and_from (side m r == f) (is_outer m r) (eq-eqb (side m r) f its_side) out.0) there) on)
        | inr inner ↦
            let is : shell m f ≡ Some r = ap (shell m) (sym its_side) ∙ inner.1 in
            let known : has m.faces f ≡ true = subst (λ x. has m.faces x ≡ true) its_side inner.2 in
            let off : (f == 0) ≡ false = ne_eqb f 0 (λ z. both_ways (has m.faces 0) (face_0_none t) (subst (λ x. has m.faces x ≡ true) z known)) in
            let front : has_edge (if f == 0 then [] else ring_if_some m (shell m f)) d ≡ true = rw off (subst (λ (o : Option ℤ). has_edge (ring_if_some m o) d ≡ true) (sym is) on) in
            in_front same_edges (if f == 0 then [] else ring_if_some m (shell m f)) (flat_map (ring m) (holes m f)) d front
      ]

  -- a face beside another is across one of its signed edges
  pub record IsAcross (f x : ℕ) : Type 0 where
    pub edge : ℤ
    pub signed : has_edge (signed_edges m) edge ≡ true
    pub left : side m edge ≡ f
    pub right : side m (reverse edge) ≡ x
    pub other : x ≡ f → ⊥

  pub from_adjacent : (f x : ℕ) → has (adjacent m f) x ≡ true → IsAcross f x
  from_adjacent f x on =
      let beside = map (λ d. side m (reverse d)) (face_edges m f) in
      let passed = from_filter same_numbers (λ g. not (g == f)) beside x (from_occurrences [] (filter (λ g. not (g == f)) beside) x on) in
      let d = from_map (λ d. side m (reverse d)) (face_edges m f) x passed.1 in
      let it = of_face f d.0 d.1 in
      record { edge = d.0; signed = it.0; left = it.1; right = d.2; other = eqb-false x f (not-true (x == f) passed.0) }

  pub into_adjacent : (f x : ℕ) → IsAcross f x → has (adjacent m f) x ≡ true
  into_adjacent f x a =
      let beside = map (λ d. side m (reverse d)) (face_edges m f) in
      let there : has beside x ≡ true = subst (λ z. has beside z ≡ true) a.right (into_map (λ d. side m (reverse d)) (face_edges m f) a.edge (on_face f a.edge a.signed a.left)) in
      let off : not (x == f) ≡ true = rw (ne_eqb x f a.other) refl in
      into_occurrences [] (filter (λ g. not (g == f)) beside) x refl (in_filter same_numbers (λ g. not (g == f)) beside x off there)

  pub adjacent-sym : (f x : ℕ) → has (adjacent m f) x ≡ true → has (adjacent m x) f ≡ true
  adjacent-sym f x on =
      let a = from_adjacent f x on in
      into_adjacent x f (record {
        edge = reverse a.edge;
        signed = signed-reverse m a.edge ∙ a.signed;
        left = a.right;
        right = ap (side m) (reverse-reverse a.edge) ∙ a.left;
        other = λ e. a.other (sym e);
      })

  module _ (there : has_faces (map_of t) ≡ true) where
    pub side_known : (d : ℤ) → has_edge (signed_edges m) d ≡ true → is_face m (side m d) ≡ true
    side_known d signed =
        among same_edges (λ d. is_face m (side m d)) (signed_edges m) d (and_parts (list_all (λ d. is_face m (side m d)) (signed_edges m)) (list_all (λ n. is_face_or_none m (node_face m n)) m.nodes.keys) there).0 signed

    pub adjacent_known : (f x : ℕ) → has (adjacent m f) x ≡ true → is_face m x ≡ true
    adjacent_known f x on =
        let a = from_adjacent f x on in
        subst (λ z. is_face m z ≡ true) a.right (side_known (reverse a.edge) (signed-reverse m a.edge ∙ a.signed))
