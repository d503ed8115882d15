-- In a placed map the outer rings are a placing: the rounds keep the order.
use Rattle.std.proofs.Common.{◌≡◌, ℕ, zero, suc, ◌+◌, ◌<◌, ◌⊎◌, inl, inr, ℤ, true, false, not, ◌&&◌, ◌==◌, List, [], ◌∷◌, ◌++◌, map, length, refl, sym, ap, ◌∙◌, subst, arith, append_assoc, append-nil, length-append, Some}
use Rattle.std.specs.Prelude.{slice_get}
use Rattle.std.proofs.lemmas.Bool.{eqb-true, and_parts, or_cases, or_left, or_right, both_ways, not-true, false_from_ne_true}
use Rattle.topo_base.specs.SignedEdge.{same_edge}
use Rattle.orbits.proofs.Lists.{from_filter, in_either, in_neither, in_front, in_back}
use Rattle.plane_model.specs.Rows.{Rows}
use Rattle.plane_model.specs.Sets.{has, has_edge}
use Rattle.plane_model.specs.PlaneMap.{PlaneMap, map_of, side, rings}
use Rattle.plane_model.specs.Component.{component, components}
use Rattle.plane_model.specs.Faces.{of_components, reached_through, outer_rings, is_placed}
use Rattle.plane_model.proofs.SetLaws.{same_self, same_edges}
use Rattle.plane_model.proofs.Rounds.{RingFacts, Holds, through, one_round, from_component}
use Rattle.plane_model.proofs.OuterRings.{Shells}
use Rattle.plane_model.proofs.OneOuterRing.{IsPlacedMap, its_outer_ring, one_outer_ring, placed_shells, shell_face, face_shell, one_shell}
use Rattle.placement_laws.specs.Placing.{IsLabelledRotation, IsPlacing, IsShellOfEarlier}
use Rattle.placement_laws.proofs.Parts.{HasParts, parts_of, component_self, rings-signed}
use Rattle.placement_laws.proofs.Lists.{place_of}

-- a ring on this face that is not among the last, in the component of one before
record Earlier (m : PlaneMap) (last before : List ℤ) (f : ℕ) : Type 0 where
  ring : ℤ
  there : has_edge (rings m) ring ≡ true
  not_outer : has_edge last ring ≡ false
  its_face : side m ring ≡ f
  start : ℤ
  is_before : has_edge before start ≡ true
  within : has_edge (component m start) ring ≡ true

abbrev Ordered : PlaneMap → List ℤ → List ℤ → List ℤ → Type 0
Ordered m last before [] = Unit
Ordered m last before (r ∷ rs) = ((side m r ≡ 0) ⊎ Earlier m last before (side m r)) × Ordered m last (before ++ r ∷ []) rs

weaker : (m : PlaneMap) (last before more : List ℤ) (f : ℕ) → Earlier m last before f → Earlier m last (before ++ more) f
weaker m last before more f e = record { ring = e.ring; there = e.there; not_outer = e.not_outer; its_face = e.its_face; start = e.start; is_before = in_front same_edges before more e.start e.is_before; within = e.within }

ordered_append : (m : PlaneMap) (last : List ℤ) (xs before ys : List ℤ) → ((r : ℤ) → has_edge xs r ≡ true → (side m r ≡ 0) ⊎ Earlier m last before (side m r)) → Ordered m last (before ++ xs) ys → Ordered m last before (xs ++ ys)
ordered_append m last [] before ys each rest = subst (λ b. Ordered m last b ys) (append-nil before) rest
ordered_append m last (x ∷ xs) before ys each rest = (
  each x (or_left _ _ (same_self x)),
  ordered_append m last xs (before ++ x ∷ []) ys
      (λ r h. elim (each r (or_right (same_edge r x) _ h)) [ inl z ↦ inl z | inr e ↦ inr (weaker m last before (x ∷ []) (side m r) e) ])
      (subst (λ b. Ordered m last b ys) (sym (append_assoc before (x ∷ []) xs)) rest),
)

-- what was reached is not reached through again
not_again : (m : PlaneMap) (n : ℕ) (front : List ℕ) (reached : List ℤ) (q : ℤ) → has_edge reached q ≡ true → has_edge (reached_through n m front reached) q ≡ false
unfolding reached_through through
not_again m zero front reached q h = refl
not_again m (suc n) front reached q h =
    let now = through m front reached in
    in_neither same_edges now (reached_through n m (map (side m) (of_components m now)) (reached ++ of_components m now)) q
    (false_from_ne_true (has_edge now q) (λ on. both_ways _ (not-true _ (and_parts _ _ (from_filter same_edges (λ r. has front (side m r) && not (has_edge reached r)) (rings m) q on).0).1) h))
    (not_again m n _ _ q (in_front same_edges reached (of_components m now) q h))

-- what is reached is in the component of an outer ring
unfoldable pub Whose : PlaneMap → List ℤ → List ℤ → Type 0
Whose m outer reached = (d : ℤ) → has_edge reached d ≡ true → (o : ℤ) × (has_edge outer o ≡ true) × (has_edge (component m o) d ≡ true)

pub next_whose : (m : PlaneMap) (front : List ℕ) (reached outer : List ℤ) → Whose m outer reached → Whose m (outer ++ through m front reached) (reached ++ of_components m (through m front reached))
unfolding Whose
next_whose m front reached outer now d h = elim (in_either same_edges reached (of_components m (through m front reached)) d h) [
  | inl old ↦ let o = now d old in (o.0, in_front same_edges outer (through m front reached) o.0 o.1, o.2)
  | inr new ↦ let t = from_component m (through m front reached) d new in (t.0, in_back same_edges outer (through m front reached) t.0 t.1, t.2)
]

pub begin_whose : (m : PlaneMap) → Whose m [] []
unfolding Whose
begin_whose m d h = absurd (both_ways false refl h)

placed_before : (m : PlaneMap) (last : List ℤ) (n : ℕ) (front : List ℕ) (reached outer : List ℤ) → Holds m front reached outer → Whose m outer reached → last ≡ outer ++ reached_through n m front reached
    → (r : ℤ) → has_edge (through m front reached) r ≡ true → (side m r ≡ 0) ⊎ Earlier m last outer (side m r)
unfolding through Whose
placed_before m last n front reached outer now whose e r h =
    let on = (and_parts (has front (side m r)) (not (has_edge reached r)) (from_filter same_edges (λ r. has front (side m r) && not (has_edge reached r)) (rings m) r h).0).0 in
    elim (now.known (side m r) on) [
      | inl z ↦ inl z
      | inr d ↦ elim (now.shells d.0 d.1) [
        | inl z ↦ inl (sym d.2 ∙ z)
        | inr s ↦
            let o = whose s.ring s.reached_it in
            inr (record {
              ring = s.ring;
              there = s.there;
              not_outer = subst (λ xs. has_edge xs s.ring ≡ false) (sym e) (in_neither same_edges outer (reached_through n m front reached) s.ring s.not_outer (not_again m n front reached s.ring s.reached_it));
              its_face = s.its_face ∙ d.2;
              start = o.0;
              is_before = o.1;
              within = o.2;
            })
      ]
    ]

all_ordered : (m : PlaneMap) → RingFacts m → (last : List ℤ) (n : ℕ) (front : List ℕ) (reached outer : List ℤ) → Holds m front reached outer → Whose m outer reached
    → last ≡ outer ++ reached_through n m front reached → Ordered m last outer (reached_through n m front reached)
unfolding through reached_through
all_ordered m facts last zero front reached outer now whose e = tt
all_ordered m facts last (suc n) front reached outer now whose e =
    let new = through m front reached in
    ordered_append m last new outer (reached_through n m (map (side m) (of_components m new)) (reached ++ of_components m new))
    (placed_before m last (suc n) front reached outer now whose e)
    (all_ordered m facts last n (map (side m) (of_components m new)) (reached ++ of_components m new) (outer ++ new) (one_round m facts front reached outer now) (next_whose m front reached outer whose)
    (e ∙ sym (append_assoc outer new (reached_through n m (map (side m) (of_components m new)) (reached ++ of_components m new)))))

begin_holds : (m : PlaneMap) → Holds m (0 ∷ []) [] []
begin_holds m =
    record {
      known = λ f h. elim (or_cases (f == 0) false h) [ inl is ↦ inl (eqb-true f 0 is) | inr none ↦ absurd (both_ways false refl none) ];
      shells = λ d h. absurd (both_ways false refl h);
      past = λ r h. absurd (both_ways false refl h);
    }

order_at : (m : PlaneMap) (last before xs : List ℤ) → last ≡ before ++ xs → Ordered m last before xs → (k : ℕ) (r : ℤ) → slice_get xs k ≡ Some r → (place : ℕ) → place ≡ length before + k → (side m r ≡ 0) ⊎ IsShellOfEarlier m last place (side m r)
order_at m last before [] e ordered k r h place at = cc
order_at m last before (x ∷ xs) e ordered zero r h place at =
    let is : x ≡ r = cc in
    elim ordered.0 [
      | inl z ↦ inl (subst (λ y. side m y ≡ 0) is z)
      | inr it ↦
          let j = place_of before (x ∷ xs) it.start it.is_before in
          let lt : j.0 < length before = j.1 in
          inr (record {
            shell = it.ring;
            is_ring = it.there;
            no_start = it.not_outer;
            its_face = it.its_face ∙ ap (side m) is;
            earlier = j.0;
            is_earlier = omega arith;
            start = it.start;
            its_start = subst (λ ys. slice_get ys j.0 ≡ Some it.start) (sym e) j.2;
            within = it.within;
          })
    ]
order_at m last before (x ∷ xs) e ordered (suc k) r h place at =
    let long = length-append before (x ∷ []) in
    order_at m last (before ++ x ∷ []) xs (e ∙ sym (append_assoc before (x ∷ []) xs)) ordered.1 k r h place (omega arith)

-- in any map each outer ring lies on face 0, or on the face of a ring that is no outer ring, in the component of an
-- earlier one
pub outer_order : (m : PlaneMap) → HasParts m → (place : ℕ) (r : ℤ) → slice_get (outer_rings m) place ≡ Some r → (side m r ≡ 0) ⊎ IsShellOfEarlier m (outer_rings m) place (side m r)
outer_order m g place r h =
    order_at m (outer_rings m) [] (outer_rings m) refl (all_ordered m g.facts (outer_rings m) (length (components m)) (0 ∷ []) [] [] (begin_holds m) (begin_whose m) refl) place r h place (omega arith)

placed_map : (t : Rows) → IsLabelledRotation t → is_placed (map_of t) ≡ true → IsPlacedMap t
placed_map t h placed = record { rotation = h.rotation; labelled = h.labelled; placed = placed; faces = h.faces }

pub placing_of : (t : Rows) → IsLabelledRotation t → is_placed (map_of t) ≡ true → IsPlacing (map_of t) (outer_rings (map_of t))
placing_of t h placed =
    let ok = placed_map t h placed in
    let s : Shells (map_of t) = placed_shells t ok in
    record {
      among = s.outer_among;
      apart = s.outer_apart;
      each = λ d k. its_outer_ring t ok d k;
      one = λ r q k l on. one_outer_ring t ok q r q k l on (component_self (map_of t) q (rings-signed (map_of t) q (s.outer_among q l)));
      faced = λ q k out. shell_face t ok q k out;
      shells = λ f k. face_shell t ok f k;
      one_shell = λ q p k q_out l p_out same. one_shell t ok q p k l q_out p_out same;
      order = λ place r at. outer_order (map_of t) (parts_of t h) place r at;
    }
