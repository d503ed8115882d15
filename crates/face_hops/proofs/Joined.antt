-- In placed maps a path leads from each face to each other: all faces beside a component are joined, and through the
-- shell of the face that a component lies on it is joined to an earlier one, down to face 0.
use Rattle.std.specs.Prelude.{slice_get}
use Rattle.std.proofs.Common.{◌≡◌, ℕ, zero, suc, ℤ, ◌+◌, ◌<◌, inl, inr, Bool, true, ◌&&◌, ◌==◌, [], length, refl, sym, ap, ◌∙◌, subst, arith, Some, append-nil}
use Rattle.std.proofs.lemmas.Bool.{cases_eq, eqb-true, or_cases, and_from, and_parts}
use Rattle.topo_base.specs.SignedEdge.{reverse}
use Rattle.orbits.proofs.Lists.{among}
use Rattle.plane_model.specs.Rows.{Rows}
use Rattle.plane_model.specs.Sets.{has, has_edge}
use Rattle.plane_model.specs.PlaneMap.{PlaneMap, map_of, signed_edges, side, next, turn}
use Rattle.plane_model.specs.Rotation.{is_face, has_faces}
use Rattle.plane_model.specs.Component.{component}
use Rattle.plane_model.specs.Faces.{is_placed, outer_rings}
use Rattle.plane_model.specs.Lists.{adjacent}
use Rattle.plane_model.specs.Hops.{is_within, distance}
use Rattle.plane_model.proofs.SetLaws.{same_edges, component-least, IsClosed}
use Rattle.plane_model.proofs.RotationOrbits.{reverse-reverse, signed-reverse, whole_rotation}
use Rattle.placement_laws.specs.Placing.{IsLabelledRotation, IsPlacing}
use Rattle.placement_laws.proofs.Parts.{HasParts, parts_of, rings-signed}
use Rattle.placement_laws.proofs.Placed.{placing_of}
use Rattle.placement_laws.proofs.Lists.{place_of, place_has}
use Rattle.face_hops.proofs.PathLaws.{within-later, within-self, within-step, within_cases, within-join}
use Rattle.face_hops.proofs.Ways.{within-few, distance_some, IsNearest}
use Rattle.face_hops.proofs.Beside.{into_adjacent, adjacent-sym, side_known, adjacent_known}

module _ (t : Rows) (h : IsLabelledRotation t) (settled : is_placed (map_of t) ≡ true) (there : has_faces (map_of t) ≡ true) where
  abbrev m : PlaneMap
  m = map_of t

  parts : HasParts m
  parts = parts_of t h

  placing : IsPlacing m (outer_rings m)
  placing = placing_of t h settled

  known : (f x : ℕ) → has (adjacent m f) x ≡ true → is_face m x ≡ true
  known = adjacent_known t h settled there

  -- a path back
  pub within-sym : (n : ℕ) (f g : ℕ) → is_within n m f g ≡ true → is_within n m g f ≡ true
  within-sym zero f g k = within-self zero m g f (sym (eqb-true f g k))
  within-sym (suc n) f g k = elim (within_cases n m f g k) [
    | inl e ↦ within-self (suc n) m g f (sym e)
    | inr s ↦
        let back = within-sym n s.0 g s.2 in
        let last = within-step zero m s.0 f f (adjacent-sym t h settled f s.0 s.1) (within-self zero m f f refl) in
        within-later (suc n) (n + 1) m g f (omega arith) (within-join n 1 m g s.0 f back last)
  ]

  -- whether a path leads from a face to face 0
  joined : ℕ → Bool
  joined f = is_within (length m.faces) m f 0

  joined_from : (f n : ℕ) → is_face m f ≡ true → is_within n m f 0 ≡ true → joined f ≡ true
  unfolding joined
  joined_from f n f_in k = within-few m 0 known n f f_in k

  joined_0 : joined 0 ≡ true
  unfolding joined
  joined_0 = within-self (length m.faces) m 0 0 refl

  -- across an edge
  joined_across : (d : ℤ) → has_edge (signed_edges m) d ≡ true → joined (side m d) ≡ true → joined (side m (reverse d)) ≡ true
  unfolding joined
  joined_across d signed k =
      let f = side m d in
      let x = side m (reverse d) in
      let back = signed-reverse m d ∙ signed in
      elim (cases_eq f x) [
        | inl e ↦ subst (λ z. is_within (length m.faces) m z 0 ≡ true) e k
        | inr n ↦
            let beside : has (adjacent m x) f ≡ true = into_adjacent t h settled x f (record { edge = reverse d; signed = back; left = refl; right = ap (side m) (reverse-reverse d); other = n }) in
            joined_from x (suc (length m.faces)) (side_known t h settled there (reverse d) back) (within-step (length m.faces) m x f 0 beside k)
      ]

  -- the signed edges on joined faces
  on_joined : ℤ → Bool
  on_joined d = has_edge (signed_edges m) d && joined (side m d)

  joined_closed : IsClosed m on_joined
  unfolding on_joined
  joined_closed d k =
      let both = and_parts (has_edge (signed_edges m) d) (joined (side m d)) k in
      let whole = whole_rotation t h.rotation in
      let back = signed-reverse m d ∙ both.0 in
      let over = joined_across d both.0 both.1 in
      let same : side m (next m (reverse d)) ≡ side m (reverse d) = eqb-true _ _ (among same_edges (λ e. side m (next m e) == side m e) (signed_edges m) (reverse d) h.labelled back) in (
        and_from (has_edge (signed_edges m) (reverse d)) (joined (side m (reverse d))) back over,
        and_from (has_edge (signed_edges m) (turn m d)) (joined (side m (turn m d))) (whole.turned d both.0) (subst (λ z. joined z ≡ true) (sym same) over),
      )

  -- all faces beside a component are joined where one is
  joined_component : (r d : ℤ) → has_edge (signed_edges m) r ≡ true → joined (side m r) ≡ true → has_edge (component m r) d ≡ true → joined (side m d) ≡ true
  unfolding on_joined
  joined_component r d signed k on =
      let all = component-least m on_joined joined_closed r (and_from (has_edge (signed_edges m) r) (joined (side m r)) signed k) in
      (and_parts (has_edge (signed_edges m) d) (joined (side m d)) (among same_edges on_joined (component m r) d all on)).1

  -- outer rings in their order
  outer_joined : (n place : ℕ) (r : ℤ) → place < n → slice_get (outer_rings m) place ≡ Some r → joined (side m r) ≡ true
  outer_joined zero place r l e = absurd (omega (arith, l))
  outer_joined (suc n) place r l e = elim (placing.order place r e) [
    | inl z ↦ subst (λ x. joined x ≡ true) (sym z) joined_0
    | inr s ↦
        let early = s.is_earlier in
        let first = outer_joined n s.earlier s.start (omega (arith, l, early)) s.its_start in
        let signed = rings-signed m s.start (placing.among s.start (place_has (outer_rings m) s.earlier s.start s.its_start)) in
        subst (λ x. joined x ≡ true) s.its_face (joined_component s.start s.shell signed first s.within)
  ]

  pub face_joined : (f : ℕ) → is_face m f ≡ true → is_within (length m.faces) m f 0 ≡ true
  unfolding joined
  face_joined f f_in = elim (or_cases (f == 0) (has m.faces f) f_in) [
    | inl z ↦ within-self (length m.faces) m f 0 (eqb-true f 0 z)
    | inr known ↦
        let q = placing.shells f known in
        let q_in = rings-signed m q.0 q.1 in
        let r = placing.each q.0 q_in in
        let place = place_of (outer_rings m) [] r.0 r.1 in
        let at : slice_get (outer_rings m) place.0 ≡ Some r.0 = subst (λ xs. slice_get xs place.0 ≡ Some r.0) (append-nil (outer_rings m)) place.2 in
        let start = outer_joined (suc place.0) place.0 r.0 (omega arith) at in
        let signed = rings-signed m r.0 (placing.among r.0 r.1) in
        subst (λ x. joined x ≡ true) q.3 (joined_component r.0 q.0 signed start r.2)
  ]

  pub faces_joined : (f g : ℕ) → is_face m f ≡ true → is_face m g ≡ true → (k : ℕ) × (distance m f g ≡ Some k) × IsNearest m g k f
  faces_joined f g f_in g_in =
      let n = length m.faces in
      let there_and_back = within-join n n m f 0 g (face_joined f f_in) (within-sym n g 0 (face_joined g g_in)) in
      distance_some m g known (n + n) f f_in there_and_back
