-- A map with a placing is placed, and its outer rings are the starts.
use Rattle.std.proofs.Common.{◌≡◌, ℕ, zero, suc, ◌+◌, ◌<◌, ◌≤◌, ◌⊎◌, inl, inr, ℤ, Bool, true, false, not, ◌&&◌, ◌==◌, List, [], ◌∷◌, ◌++◌, map, length, refl, sym, ◌∙◌, subst, arith, append_assoc, append-nil, eq-eqb, Some}
use Rattle.std.specs.Prelude.{slice_get}
use Rattle.std.specs.List.{list_all}
use Rattle.std.proofs.lemmas.Bool.{eqb-true, and_parts, and_from, or_cases, cases_Bool, cases_lt, or_left, both_ways, not-true}
use Rattle.orbits.proofs.Lists.{in_filter, from_filter, pigeon, in_either, in_front, in_back, same_tests, any_from, all_from as edges_all}
use Rattle.plane_model.proofs.SetLaws.{same_edges}
use Rattle.plane_model.specs.Rows.{Rows}
use Rattle.plane_model.specs.Sets.{has, has_edge, is_distinct}
use Rattle.plane_model.specs.PlaneMap.{PlaneMap, map_of, side, rings, signed_edges}
use Rattle.plane_model.specs.Component.{component, components}
use Rattle.plane_model.specs.Faces.{of_components, reached_through, outer_rings, is_outer, is_reached, is_on_ring, is_placed}
use Rattle.plane_model.proofs.Rounds.{through, in_component, from_sides}
use Rattle.plane_model.proofs.OuterRings.{has_side, Shells, shells_found, shells-length, rings_enough}
use Rattle.plane_model.proofs.OneOuterRing.{faces_apart, face_not_0}
use Rattle.plane_model.proofs.Sorting.{all_from}
use Rattle.placement_laws.specs.Placing.{IsLabelledRotation, IsPlacing}
use Rattle.placement_laws.proofs.Parts.{HasParts, parts_of, component_within, component_self, component_sub, ring_name, ring_name-on, ring_name-there, ring_component, ring_side, components-signed, rings-signed, rings-apart}
use Rattle.placement_laws.proofs.Tables.{face_0_none}
use Rattle.placement_laws.proofs.Lists.{place_has, place_of}
use Rattle.placement_laws.proofs.Placed.{Whose, next_whose, begin_whose}
use Rattle.placement_laws.proofs.Found.{start_one, placing-many}

-- what holds through the rounds
record Reaches (m : PlaneMap) (starts : List ℤ) (front : List ℕ) (reached outer : List ℤ) : Type 0 where
  only : (r : ℤ) → has_edge outer r ≡ true → has_edge starts r ≡ true
  whose : Whose m outer reached
  covers : (r d : ℤ) → has_edge outer r ≡ true → has_edge (component m r) d ≡ true → has_edge reached d ≡ true
  known : (f : ℕ) → has front f ≡ true → (f ≡ 0) ⊎ ((d : ℤ) × (has_edge reached d ≡ true) × (side m d ≡ f))
  -- the rings on face 0 and on the faces that were reached: the face is in the front, or they are reached
  on_0 : (r : ℤ) → has_edge (rings m) r ≡ true → side m r ≡ 0 → (has front (side m r) ≡ true) ⊎ (has_edge reached r ≡ true)
  on_known : (d r : ℤ) → has_edge reached d ≡ true → has_edge (rings m) r ≡ true → side m r ≡ side m d → (has front (side m r) ≡ true) ⊎ (has_edge reached r ≡ true)
  passed : (o r : ℤ) → has_edge outer o ≡ true → has_edge (rings m) r ≡ true → side m r ≡ side m o → has_edge reached r ≡ true

-- what is reached is so with its component
spreads : (m : PlaneMap) → HasParts m → (starts : List ℤ) → IsPlacing m starts → (front : List ℕ) (reached outer : List ℤ) → Reaches m starts front reached outer → (d e : ℤ) → has_edge reached d ≡ true → has_edge (component m d) e ≡ true → has_edge reached e ≡ true
unfolding Whose
spreads m g starts p front reached outer now d e h on =
    let o = now.whose d h in
    now.covers o.0 e o.1 (component_sub m g o.0 d e (rings-signed m o.0 (p.among o.0 (now.only o.0 o.1))) o.2 on)

-- the rings on the front are reached by the round
reached_now : (m : PlaneMap) (front : List ℕ) (reached : List ℤ) (r : ℤ) → has_edge (rings m) r ≡ true → (has front (side m r) ≡ true) ⊎ (has_edge reached r ≡ true) → has_edge (reached ++ of_components m (through m front reached)) r ≡ true
unfolding through
reached_now m front reached r h either = elim either [
  | inr old ↦ in_front same_edges reached (of_components m (through m front reached)) r old
  | inl on ↦ elim (cases_Bool (has_edge reached r)) [
    | inl old ↦ in_front same_edges reached (of_components m (through m front reached)) r old
    | inr fresh ↦ in_back same_edges reached (of_components m (through m front reached)) r
        (in_component m (through m front reached) r r (in_filter same_edges (λ r. has front (side m r) && not (has_edge reached r)) (rings m) r (and_from (has front (side m r)) (not (has_edge reached r)) on (rw fresh refl)) h)
        (component_self m r (rings-signed m r h)))
  ]
]

-- a ring on the front whose component was not reached is a start
only_starts : (m : PlaneMap) → HasParts m → (starts : List ℤ) → IsPlacing m starts → has m.faces 0 ≡ false → (front : List ℕ) (reached outer : List ℤ) → Reaches m starts front reached outer
    → (r : ℤ) → has_edge (rings m) r ≡ true → has front (side m r) ≡ true → has_edge reached r ≡ false → has_edge starts r ≡ true
unfolding Whose
only_starts m g starts p none_0 front reached outer now r h on fresh = elim (cases_Bool (has_edge starts r)) [
  | inl is ↦ is
  | inr other ↦ absurd (elim (now.known (side m r) on) [
    | inl z ↦ both_ways (has m.faces 0) none_0 (subst (λ x. has m.faces x ≡ true) z (p.faced r h other))
    | inr d ↦
        let o = now.whose d.0 d.1 in
        let ho = rings-signed m o.0 (p.among o.0 (now.only o.0 o.1)) in
        let hd = component_within m g o.0 d.0 ho o.2 in
        let q = ring_name m d.0 in
        let hq = ring_name-there m g d.0 hd in
        let round = ring_name-on m g d.0 hd in
        let its_side : side m q ≡ side m r = ring_side m g d.0 q hd round ∙ d.2 in
        let old = spreads m g starts p front reached outer now d.0 q d.1 (ring_component m g d.0 q hd round) in
        elim (cases_Bool (has_edge starts q)) [
          | inl start ↦
              let w = now.whose q old in
              let same = start_one m g starts p q q w.0 start (component_self m q (rings-signed m q hq)) (now.only w.0 w.1) w.2 in
              both_ways (has_edge reached r) fresh (now.passed q r (subst (λ z. has_edge outer z ≡ true) same w.1) h (sym its_side))
          | inr none ↦ both_ways (has_edge reached r) fresh (subst (λ z. has_edge reached z ≡ true) (p.one_shell q r hq none h other its_side) old)
        ]
  ])
]

next_reaches : (m : PlaneMap) → HasParts m → (starts : List ℤ) → IsPlacing m starts → has m.faces 0 ≡ false → (front : List ℕ) (reached outer : List ℤ) → Reaches m starts front reached outer
    → Reaches m starts (map (side m) (of_components m (through m front reached))) (reached ++ of_components m (through m front reached)) (outer ++ through m front reached)
unfolding through
next_reaches m g starts p none_0 front reached outer now =
    let new = through m front reached in
    let test : ℤ → Bool = λ r. has front (side m r) && not (has_edge reached r) in
    record {
      only = λ r h. elim (in_either same_edges outer new r h) [
        | inl was ↦ now.only r was
        | inr on ↦
            let it = from_filter same_edges test (rings m) r on in
            let parts = and_parts (has front (side m r)) (not (has_edge reached r)) it.0 in
            only_starts m g starts p none_0 front reached outer now r it.1 parts.0 (not-true _ parts.1)
      ];
      whose = next_whose m front reached outer now.whose;
      covers = λ r d h k. elim (in_either same_edges outer new r h) [
        | inl was ↦ in_front same_edges reached (of_components m new) d (now.covers r d was k)
        | inr on ↦ in_back same_edges reached (of_components m new) d (in_component m new r d on k)
      ];
      known = λ f h. let d = from_sides m (of_components m new) f h in inr (d.0, in_back same_edges reached (of_components m new) d.0 d.1, d.2);
      on_0 = λ r h z. inr (reached_now m front reached r h (now.on_0 r h z));
      on_known = λ d r h k e. elim (in_either same_edges reached (of_components m new) d h) [
        | inl old ↦ inr (reached_now m front reached r k (now.on_known d r old k e))
        | inr fresh ↦ inl (subst (λ f. has (map (side m) (of_components m new)) f ≡ true) (sym e) (has_side m (of_components m new) d fresh))
      ];
      passed = λ o r h k e. elim (in_either same_edges outer new o h) [
        | inl was ↦ in_front same_edges reached (of_components m new) r (now.passed o r was k e)
        | inr on ↦ reached_now m front reached r k (inl (subst (λ f. has front f ≡ true) (sym e) (and_parts (has front (side m o)) (not (has_edge reached o)) (from_filter same_edges test (rings m) o on).0).0))
      ];
    }

-- each round reaches the next start at least, so all are reached in as many rounds as there are starts
finish : (m : PlaneMap) → HasParts m → (starts : List ℤ) → IsPlacing m starts → has m.faces 0 ≡ false → (n : ℕ) (front : List ℕ) (reached outer : List ℤ) → Reaches m starts front reached outer
    → (k : ℕ) → length starts ≤ k + n → ((j : ℕ) (r : ℤ) → j < k → slice_get starts j ≡ Some r → has_edge reached r ≡ true)
    → (front' : List ℕ) × (reached' : List ℤ) × Reaches m starts front' reached' (outer ++ reached_through n m front reached) × ((r : ℤ) → has_edge starts r ≡ true → has_edge reached' r ≡ true)
unfolding through reached_through
finish m g starts p none_0 zero front reached outer now k long done = (
  front,
  reached,
  subst (Reaches m starts front reached) (sym (append-nil outer)) now,
  λ r h. let j = place_of starts [] r h in let lt : j.0 < length starts = j.1 in done j.0 r (omega arith) (subst (λ xs. slice_get xs j.0 ≡ Some r) (append-nil starts) j.2),
)
finish m g starts p none_0 (suc n) front reached outer now k long done =
    let new = through m front reached in
    let more = finish m g starts p none_0 n (map (side m) (of_components m new)) (reached ++ of_components m new) (outer ++ new) (next_reaches m g starts p none_0 front reached outer now) (suc k) (omega arith)
    (λ j r lt at. elim (cases_lt j k) [
      | inl less ↦ in_front same_edges reached (of_components m new) r (done j r less at)
      | inr le ↦
          let is : j ≡ k = omega arith in
          let h = p.among r (place_has starts j r at) in
          reached_now m front reached r h (elim (p.order j r at) [
            | inl z ↦ now.on_0 r h z
            | inr s ↦
                let lt' : s.earlier < j = s.is_earlier in
                let old = spreads m g starts p front reached outer now s.start s.shell (done s.earlier s.start (omega arith) s.its_start) s.within in
                now.on_known s.shell r old h (sym s.its_face)
          ])
    ]) in (
      more.0,
      more.1,
      subst (Reaches m starts more.0 more.1) (append_assoc outer new (reached_through n m (map (side m) (of_components m new)) (reached ++ of_components m new))) more.2,
      more.3,
    )

begin_reaches : (m : PlaneMap) (starts : List ℤ) → Reaches m starts (0 ∷ []) [] []
begin_reaches m starts =
    record {
      only = λ r h. absurd (both_ways false refl h);
      whose = begin_whose m;
      covers = λ r d h k. absurd (both_ways false refl h);
      known = λ f h. elim (or_cases (f == 0) false h) [ inl is ↦ inl (eqb-true f 0 is) | inr none ↦ absurd (both_ways false refl none) ];
      on_0 = λ r h z. inl (or_left (side m r == 0) false (eq-eqb (side m r) 0 z));
      on_known = λ d r h k e. absurd (both_ways false refl h);
      passed = λ o r h k e. absurd (both_ways false refl h);
    }

-- the outer rings are the starts
pub same_starts : (m : PlaneMap) → HasParts m → (starts : List ℤ) → IsPlacing m starts → has m.faces 0 ≡ false → (r : ℤ) → ((has_edge (outer_rings m) r ≡ true) → has_edge starts r ≡ true) × ((has_edge starts r ≡ true) → has_edge (outer_rings m) r ≡ true)
unfolding Whose
same_starts m g starts p none_0 r =
    let many = placing-many m g starts p in
    let end = finish m g starts p none_0 (length (components m)) (0 ∷ []) [] [] (begin_reaches m starts) 0 (omega arith) (λ j r lt at. absurd (omega arith)) in
    let rounds : Reaches m starts end.0 end.1 (outer_rings m) = end.2 in (
      λ h. rounds.only r h,
      λ h.
          let o = rounds.whose r (end.3 r h) in
          subst (λ z. has_edge (outer_rings m) z ≡ true) (start_one m g starts p r r o.0 h (component_self m r (rings-signed m r (p.among r h))) (rounds.only o.0 o.1) o.2) o.1,
    )

-- a ring is a start or the shell of a face other than 0
placing-rings : (m : PlaneMap) → HasParts m → is_distinct m.faces ≡ true → ((f : ℕ) → has m.faces f ≡ true → f ≡ 0 → ⊥) → (starts : List ℤ) → IsPlacing m starts → ((r : ℤ) → is_outer m r ≡ has_edge starts r)
    → length (rings m) ≡ length m.faces + length starts
placing-rings m g faces_apart not_0 starts p same =
    let s : Shells m = shells_found m g.facts (rings-apart m g) faces_apart not_0 (λ f h.
    let q = p.shells f h in
    let r = p.each q.0 (rings-signed m q.0 q.1) in
    (r.0, q.0, same r.0 ∙ r.1, r.2, q.3)) in
    let few = rings_enough m s in
    let many = pigeon same_edges (rings m) (outer_rings m ++ s.shells) (rings-apart m g) (λ r h. elim (cases_Bool (has_edge starts r)) [
      | inl on ↦ in_front same_edges (outer_rings m) s.shells r (same r ∙ on)
      | inr other ↦
          let q = from_sides m s.shells (side m r) (subst (λ fs. has fs (side m r) ≡ true) (sym s.sides) (p.faced r h other)) in
          let there = s.among q.0 q.1 in
          in_back same_edges (outer_rings m) s.shells r (subst (λ z. has_edge s.shells z ≡ true) (p.one_shell q.0 r there.0 (sym (same q.0) ∙ there.1) h other q.2) q.1)
    ]) in
    let long = shells-length m s in
    let a = pigeon same_edges (outer_rings m) starts s.outer_apart (λ r h. sym (same r) ∙ h) in
    let b = pigeon same_edges starts (outer_rings m) p.apart (λ r h. same r ∙ h) in
    omega arith

pub outer_of : (t : Rows) (starts : List ℤ) → IsLabelledRotation t → IsPlacing (map_of t) starts → (r : ℤ) → is_outer (map_of t) r ≡ has_edge starts r
outer_of t starts h p r =
    let both = same_starts (map_of t) (parts_of t h) starts p (face_0_none t) r in
    same_tests (is_outer (map_of t) r) (has_edge starts r) both.0 both.1

pub placed_of : (t : Rows) (starts : List ℤ) → IsLabelledRotation t → IsPlacing (map_of t) starts → is_placed (map_of t) ≡ true
placed_of t starts h p =
    let m = map_of t in
    let g = parts_of t h in
    let many = placing-many m g starts p in
    let all = placing-rings m g (faces_apart t h.faces) (face_not_0 t) starts p (outer_of t starts h p) in
    and_from (list_all (is_reached m) (components m) && list_all (is_on_ring m) m.faces) (length (rings m) == length m.faces + length (components m))
    (and_from (list_all (is_reached m) (components m)) (list_all (is_on_ring m) m.faces)
    (edges_all same_edges (is_reached m) (components m) (λ c k.
    let r = p.each c (components-signed m c k) in
    any_from same_edges (λ r. has_edge (component m r) c) (outer_rings m) r.0 (outer_of t starts h p r.0 ∙ r.1) r.2))
    (all_from (is_on_ring m) m.faces (λ f k.
    let q = p.shells f k in
    any_from same_edges (λ d. side m d == f) (signed_edges m) q.0 (rings-signed m q.0 q.1) (eq-eqb (side m q.0) f q.3))))
    (eq-eqb (length (rings m)) (length m.faces + length (components m)) (omega arith))
