-- Sets of faces and components that are closed along rings: what the rounds reach is the least of them.
use Rattle.std.proofs.Common.{◌≡◌, ℕ, zero, suc, ◌+◌, ◌≤◌, ◌⊎◌, inl, inr, ℤ, Bool, true, false, not, ◌&&◌, ◌||◌, ◌==◌, List, [], ◌∷◌, ◌++◌, map, filter, length, refl, sym, ◌∙◌, subst, arith, append_assoc, append-nil, eq-eqb}
use Rattle.std.specs.List.{list_all}
use Rattle.std.proofs.lemmas.Bool.{eqb-true, and_parts, and_from, or_cases, cases_Bool, or_left, or_right, both_ways, not-true, false_from_ne_true}
use Rattle.topo_base.specs.SignedEdge.{same_edge}
use Rattle.orbits.proofs.Lists.{in_filter, from_filter, in_either, in_front, same_tests, some_that, any_from, among, all_from as edges_all}
use Rattle.plane_model.specs.Rows.{Rows}
use Rattle.plane_model.specs.Sets.{has, has_edge}
use Rattle.plane_model.specs.PlaneMap.{PlaneMap, map_of, signed_edges, side, rings, smallest}
use Rattle.plane_model.specs.Component.{component, components}
use Rattle.plane_model.specs.Faces.{of_components, reached_through, outer_rings, is_reached, is_on_ring, is_placed}
use Rattle.plane_model.proofs.SetLaws.{same_is, same_edges}
use Rattle.plane_model.proofs.Rounds.{through, in_component, from_component, from_sides}
use Rattle.plane_model.proofs.OuterRings.{has_side}
use Rattle.plane_model.proofs.OneOuterRing.{face_not_0}
use Rattle.plane_model.proofs.Sorting.{all_from, among as among_numbers}
use Rattle.placement_laws.specs.Placing.{IsLabelledRotation}
use Rattle.placement_laws.specs.PlacedSoFar.{unreached, round_starts}
use Rattle.placement_laws.specs.Connected.{IsClosedAlongRings, EachClosedHas, EachClosedHasAll, IsTree}
use Rattle.placement_laws.proofs.Parts.{HasParts, parts_of, component_self, component_within, component_sub, component_sym, component_name, component_name-in, component_name-same, component_name-there, rings-signed, ring_name, ring_name-on, ring_name-there, ring_side, ring_component}
use Rattle.placement_laws.proofs.EachRound.{of_components-append, nothing_more, fewer_left, some_or_none, round_reaches, place_begin}

-- what is reached is in each closed set

-- the face of a signed edge is in where its component is
face_held : (m : PlaneMap) → HasParts m → (faces : ℕ → Bool) (parts : ℤ → Bool) → IsClosedAlongRings m faces parts → (o d : ℤ)
    → has_edge (signed_edges m) o ≡ true → has_edge (component m o) d ≡ true → parts (component_name m o) ≡ true → faces (side m d) ≡ true
face_held m g faces parts closed o d ho on h =
    let hd = component_within m g o d ho on in
    let q = ring_name m d in
    let round = ring_name-on m g d hd in
    let its : component_name m q ≡ component_name m o = component_name-same m g d q hd (ring_component m g d q hd round) ∙ component_name-same m g o d ho on in
    subst (λ f. faces f ≡ true) (ring_side m g d q hd round) (closed.along q (ring_name-there m g d hd) ∙ subst (λ c. parts c ≡ true) (sym its) h)

-- a ring with its component in the set
record IsHeld (m : PlaneMap) (parts : ℤ → Bool) (r : ℤ) : Type 0 where
  is_ring : has_edge (rings m) r ≡ true
  is_in : parts (component_name m r) ≡ true

-- from faces in the set the rounds reach no component outside
rounds_held : (m : PlaneMap) → HasParts m → (faces : ℕ → Bool) (parts : ℤ → Bool) → IsClosedAlongRings m faces parts
    → (n : ℕ) (front : List ℕ) (reached : List ℤ) → ((f : ℕ) → has front f ≡ true → faces f ≡ true)
    → (r : ℤ) → has_edge (reached_through n m front reached) r ≡ true → IsHeld m parts r
unfolding reached_through through
rounds_held m g faces parts closed zero front reached on r h = absurd (both_ways false refl h)
rounds_held m g faces parts closed (suc n) front reached on r h =
    let test : ℤ → Bool = λ r. has front (side m r) && not (has_edge reached r) in
    let new = through m front reached in
    let each : (q : ℤ) → has_edge new q ≡ true → IsHeld m parts q = λ q k.
    let it = from_filter same_edges test (rings m) q k in
    record { is_ring = it.1; is_in = sym (closed.along q it.1) ∙ on (side m q) (and_parts (has front (side m q)) (not (has_edge reached q)) it.0).0 } in
    elim (in_either same_edges new (reached_through n m (map (side m) (of_components m new)) (reached ++ of_components m new)) r h) [
      | inl now ↦ each r now
      | inr later ↦ rounds_held m g faces parts closed n (map (side m) (of_components m new)) (reached ++ of_components m new)
          (λ f k.
          let d = from_sides m (of_components m new) f k in
          let o = from_component m new d.0 d.1 in
          let it = each o.0 o.1 in
          subst (λ x. faces x ≡ true) d.2 (face_held m g faces parts closed o.0 d.0 (rings-signed m o.0 it.is_ring) o.2 it.is_in))
          r later
    ]

-- a component that is reached is in each closed set
pub in_each_closed : (m : PlaneMap) → HasParts m → (c : ℤ) → has_edge (components m) c ≡ true → is_reached m c ≡ true → EachClosedHas m c
in_each_closed m g c h reached faces parts closed =
    let o = some_that same_edges (λ r. has_edge (component m r) c) (outer_rings m) reached in
    let it = rounds_held m g faces parts closed (length (components m)) (0 ∷ []) []
    (λ f k. elim (or_cases (f == 0) false k) [ inl is ↦ subst (λ x. faces x ≡ true) (sym (eqb-true f 0 is)) closed.face_0 | inr none ↦ absurd (both_ways false refl none) ])
    o.0 o.1 in
    let same : component_name m c ≡ component_name m o.0 = component_name-same m g o.0 c (rings-signed m o.0 it.is_ring) o.2 in
    let own : c ≡ component_name m c = same_is c (component_name m c) (from_filter same_edges (λ x. same_edge x (smallest x (component m x))) (signed_edges m) c h).0 in
    subst (λ x. parts x ≡ true) (sym (own ∙ same)) it.is_in

-- what is reached is a closed set

abbrev AreRings : PlaneMap → List ℤ → Type 0
AreRings m starts = (r : ℤ) → has_edge starts r ≡ true → has_edge (rings m) r ≡ true

-- starts whose components have all rings on face 0 and on the faces of these components
record Closes (m : PlaneMap) (starts : List ℤ) : Type 0 where
  only_rings : AreRings m starts
  closed : (r : ℤ) → has_edge (rings m) r ≡ true → has (0 ∷ map (side m) (of_components m starts)) (side m r) ≡ true → has_edge (of_components m starts) r ≡ true

-- what is reached is so with its component
spread : (m : PlaneMap) → HasParts m → (starts : List ℤ) → AreRings m starts → (d e : ℤ)
    → has_edge (of_components m starts) d ≡ true → has_edge (component m d) e ≡ true → has_edge (of_components m starts) e ≡ true
spread m g starts only d e h on = let s = from_component m starts d h in in_component m starts s.0 e s.1 (component_sub m g s.0 d e (rings-signed m s.0 (only s.0 s.1)) s.2 on)

-- a ring is reached where its component's name is
named_reached : (m : PlaneMap) → HasParts m → (starts : List ℤ) → AreRings m starts → (r : ℤ)
    → has_edge (rings m) r ≡ true → has_edge (of_components m starts) (component_name m r) ≡ true → has_edge (of_components m starts) r ≡ true
named_reached m g starts only r h on =
    let hr = rings-signed m r h in
    spread m g starts only (component_name m r) r on (component_sym m g r (component_name m r) hr (component_name-in m r hr))

more_reached : (m : PlaneMap) (starts new : List ℤ) (d : ℤ) → has_edge (of_components m starts) d ≡ true → has_edge (of_components m (starts ++ new)) d ≡ true
more_reached m starts new d h = let s = from_component m starts d h in in_component m (starts ++ new) s.0 d (in_front same_edges starts new s.0 s.1) s.2

none_left : (xs : List ℤ) (x : ℤ) → length xs ≤ 0 → has_edge xs x ≡ true → ⊥
none_left [] x few h = both_ways false refl h
none_left (y ∷ xs) x few h = omega arith

-- where no component is left all rings are reached
all_reached : (m : PlaneMap) → HasParts m → (starts : List ℤ) → AreRings m starts → unreached m starts ≤ 0
    → (r : ℤ) → has_edge (rings m) r ≡ true → has_edge (of_components m starts) r ≡ true
all_reached m g starts only few r h =
    let c = component_name m r in
    let test : ℤ → Bool = λ c. not (has_edge (of_components m starts) c) in
    elim (cases_Bool (has_edge (of_components m starts) c)) [
      | inl on ↦ named_reached m g starts only r h on
      | inr off ↦ absurd (none_left (filter test (components m)) c few (in_filter same_edges test (components m) c (rw off refl) (component_name-there m g r (rings-signed m r h))))
    ]

-- the rings on face 0 and on the faces that were reached: the face is in the front, or they are reached
abbrev IsAhead : PlaneMap → List ℕ → List ℤ → Type 0
IsAhead m front starts =
    (r : ℤ) → has_edge (rings m) r ≡ true → has (0 ∷ map (side m) (of_components m starts)) (side m r) ≡ true
    → (has front (side m r) ≡ true) ⊎ (has_edge (of_components m starts) r ≡ true)

next_ahead : (m : PlaneMap) → HasParts m → (front : List ℕ) (starts : List ℤ) → IsAhead m front starts
    → IsAhead m (map (side m) (of_components m (round_starts m front starts))) (starts ++ round_starts m front starts)
next_ahead m g front starts ahead r h on =
    let new = round_starts m front starts in
    let old : has (0 ∷ map (side m) (of_components m starts)) (side m r) ≡ true → has_edge (of_components m (starts ++ new)) r ≡ true = λ k.
    elim (ahead r h k) [ inl on_front ↦ round_reaches m front starts r h on_front | inr was ↦ more_reached m starts new r was ] in
    elim (or_cases (side m r == 0) (has (map (side m) (of_components m (starts ++ new))) (side m r)) on) [
      | inl is_0 ↦ inr (old (or_left (side m r == 0) _ is_0))
      | inr beside ↦
          let d = from_sides m (of_components m (starts ++ new)) (side m r) beside in
          let s = from_component m (starts ++ new) d.0 d.1 in
          elim (in_either same_edges starts new s.0 s.1) [
            | inl before ↦ inr (old (or_right (side m r == 0) _ (subst (λ f. has (map (side m) (of_components m starts)) f ≡ true) d.2 (has_side m (of_components m starts) d.0 (in_component m starts s.0 d.0 before s.2)))))
            | inr now ↦ inl (subst (λ f. has (map (side m) (of_components m new)) f ≡ true) d.2 (has_side m (of_components m new) d.0 (in_component m new s.0 d.0 now s.2)))
          ]
    ]

rounds_close : (m : PlaneMap) → HasParts m → (n : ℕ) (front : List ℕ) (starts : List ℤ) → AreRings m starts → unreached m starts ≤ n → IsAhead m front starts
    → Closes m (starts ++ reached_through n m front (of_components m starts))
unfolding reached_through
rounds_close m g zero front starts only few ahead = subst (Closes m) (sym (append-nil starts)) (record { only_rings = only; closed = λ r h on. all_reached m g starts only few r h })
rounds_close m g (suc n) front starts only few ahead =
    let new = round_starts m front starts in
    let reached = of_components m starts in
    let test : ℤ → Bool = λ r. has front (side m r) && not (has_edge reached r) in
    elim (some_or_none new) [
      | inl none ↦
          let off : (r : ℤ) → has_edge (rings m) r ≡ true → test r ≡ false = λ r h.
          false_from_ne_true (test r) (λ on. both_ways (has_edge [] r) refl (subst (λ xs. has_edge xs r ≡ true) none (in_filter same_edges test (rings m) r on h))) in
          let last : reached_through (suc n) m front reached ≡ [] = nothing_more m (suc n) front reached off in
          subst (λ xs. Closes m (starts ++ xs)) (sym last) (subst (Closes m) (sym (append-nil starts)) (record {
            only_rings = only;
            closed = λ r h on. elim (ahead r h on) [
              | inr was ↦ was
              | inl on_front ↦ elim (cases_Bool (has_edge reached r)) [
                | inl was ↦ was
                | inr fresh ↦ absurd (both_ways (test r) (off r h) (and_from (has front (side m r)) (not (has_edge reached r)) on_front (rw fresh refl)))
              ]
            ];
          }))
      | inr some ↦
          let it = from_filter same_edges test (rings m) some.0 some.1 in
          let fresh = not-true (has_edge reached some.0) (and_parts (has front (side m some.0)) (not (has_edge reached some.0)) it.0).1 in
          let less = fewer_left m g starts new only some.0 it.1 some.1 fresh in
          let more = rounds_close m g n (map (side m) (of_components m new)) (starts ++ new)
          (λ r h. elim (in_either same_edges starts new r h) [ inl was ↦ only r was | inr now ↦ (from_filter same_edges test (rings m) r now).1 ])
          (omega arith) (next_ahead m g front starts ahead) in
          subst (Closes m) (append_assoc starts new (reached_through n m (map (side m) (of_components m new)) (reached ++ of_components m new)))
          (subst (λ ds. Closes m ((starts ++ new) ++ reached_through n m (map (side m) (of_components m new)) ds)) (of_components-append m starts new) more)
    ]

outer_closes : (m : PlaneMap) → HasParts m → Closes m (outer_rings m)
outer_closes m g = rounds_close m g (length (components m)) (0 ∷ []) [] (λ r h. absurd (both_ways false refl h)) (place_begin m).enough (λ r h on. inl on)

-- the faces and the components that are reached
reached_set : (m : PlaneMap) → HasParts m
    → IsClosedAlongRings m (has (0 ∷ map (side m) (of_components m (outer_rings m)))) (has_edge (of_components m (outer_rings m)))
reached_set m g =
    let all = outer_closes m g in
    let reached = of_components m (outer_rings m) in
    record {
      face_0 = or_left (0 == 0) (has (map (side m) reached) 0) refl;
      along = λ r h. same_tests (has (0 ∷ map (side m) reached) (side m r)) (has_edge reached (component_name m r))
          (λ on. spread m g (outer_rings m) all.only_rings r (component_name m r) (all.closed r h on) (component_name-in m r (rings-signed m r h)))
          (λ on. or_right (side m r == 0) _ (has_side m reached r (named_reached m g (outer_rings m) all.only_rings r h on)));
    }

-- a component in each closed set is reached
pub reached_from : (m : PlaneMap) → HasParts m → (c : ℤ) → EachClosedHas m c → is_reached m c ≡ true
reached_from m g c each =
    let o = from_component m (outer_rings m) c (each (has (0 ∷ map (side m) (of_components m (outer_rings m)))) (has_edge (of_components m (outer_rings m))) (reached_set m g)) in
    any_from same_edges (λ r. has_edge (component m r) c) (outer_rings m) o.0 o.1 o.2

-- all components

pub all_in_each : (m : PlaneMap) → HasParts m → list_all (is_reached m) (components m) ≡ true → EachClosedHasAll m
all_in_each m g all c h = in_each_closed m g c h (among same_edges (is_reached m) (components m) c all h)

pub all_reached_from : (m : PlaneMap) → HasParts m → EachClosedHasAll m → list_all (is_reached m) (components m) ≡ true
all_reached_from m g each = edges_all same_edges (is_reached m) (components m) (λ c h. reached_from m g c (each c h))

-- faces

-- a face on a ring is in where all components are
ring_face_held : (m : PlaneMap) → HasParts m → (faces : ℕ → Bool) (parts : ℤ → Bool) → IsClosedAlongRings m faces parts
    → ((c : ℤ) → has_edge (components m) c ≡ true → parts c ≡ true) → (f : ℕ) → is_on_ring m f ≡ true → faces f ≡ true
ring_face_held m g faces parts closed all f on =
    let d = some_that same_edges (λ d. side m d == f) (signed_edges m) on in
    subst (λ x. faces x ≡ true) (eqb-true (side m d.0) f d.2) (face_held m g faces parts closed d.0 d.0 d.1 (component_self m d.0 d.1) (all (component_name m d.0) (component_name-there m g d.0 d.1)))

-- the faces on rings, with all components
ring_set : (m : PlaneMap) → IsClosedAlongRings m (λ f. (f == 0) || is_on_ring m f) (λ c. true)
ring_set m =
    record {
      face_0 = or_left (0 == 0) (is_on_ring m 0) refl;
      along = λ r h. or_right (side m r == 0) _ (any_from same_edges (λ d. side m d == side m r) (signed_edges m) r (rings-signed m r h) (eq-eqb (side m r) (side m r) refl));
    }

pub tree_of : (t : Rows) → IsLabelledRotation t → is_placed (map_of t) ≡ true → IsTree (map_of t)
tree_of t h placed =
    let m = map_of t in
    let g = parts_of t h in
    let tests = and_parts (list_all (is_reached m) (components m) && list_all (is_on_ring m) m.faces) (length (rings m) == length m.faces + length (components m)) placed in
    let points = and_parts (list_all (is_reached m) (components m)) (list_all (is_on_ring m) m.faces) tests.0 in
    let all = all_in_each m g points.0 in
    record {
      components_joined = all;
      faces_joined = λ f k faces parts closed. ring_face_held m g faces parts closed (λ c there. all c there faces parts closed) f (among_numbers (is_on_ring m) m.faces f points.1 k);
      lines = eqb-true (length (rings m)) (length m.faces + length (components m)) tests.1;
    }

pub placed_from : (t : Rows) → IsLabelledRotation t → IsTree (map_of t) → is_placed (map_of t) ≡ true
placed_from t h tree =
    let m = map_of t in
    and_from (list_all (is_reached m) (components m) && list_all (is_on_ring m) m.faces) (length (rings m) == length m.faces + length (components m))
    (and_from (list_all (is_reached m) (components m)) (list_all (is_on_ring m) m.faces)
    (all_reached_from m (parts_of t h) tree.components_joined)
    (all_from (is_on_ring m) m.faces (λ f k. elim (or_cases (f == 0) (is_on_ring m f) (tree.faces_joined f k (λ f. (f == 0) || is_on_ring m f) (λ c. true) (ring_set m))) [
      | inl is_0 ↦ absurd (face_not_0 t f k (eqb-true f 0 is_0))
      | inr on ↦ on
    ])))
    (eq-eqb (length (rings m)) (length m.faces + length (components m)) tree.lines)

-- closed as a test that computes

abbrev pub both_or_neither : Bool → Bool → Bool
both_or_neither x y = (x && y) || (not x && not y)

both_same : (x y : Bool) → both_or_neither x y ≡ true → x ≡ y
both_same true true h = refl
both_same true false h = cc
both_same false true h = cc
both_same false false h = refl

pub closed_by_test : (m : PlaneMap) (faces : ℕ → Bool) (parts : ℤ → Bool) → faces 0 ≡ true
    → list_all (λ r. both_or_neither (faces (side m r)) (parts (component_name m r))) (rings m) ≡ true → IsClosedAlongRings m faces parts
closed_by_test m faces parts face_0 all =
    record { face_0 = face_0; along = λ r h. both_same (faces (side m r)) (parts (component_name m r)) (among same_edges (λ r. both_or_neither (faces (side m r)) (parts (component_name m r))) (rings m) r all h) }
