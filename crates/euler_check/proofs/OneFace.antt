-- Whether rings have one face, by the rings' numbers.
use Rattle.std.proofs.Common.{◌≡◌, ℕ, ◌+◌, ◌*◌, ◌<◌, ◌≤◌, inl, inr, true, false, List, [], ◌∷◌, ◌++◌, length, get_or, refl, sym, ap, ◌∙◌, subst, arith, eq-eqb, ◌==◌}
use Rattle.std.proofs.lemmas.Bool.{cases_Bool, cases_lt}
use Rattle.std.proofs.lemmas.List.{get_or_append_left, length-append}
use Rattle.orbits.proofs.Orbits.{orbit_own, orbit_step}
use Rattle.plane_model.specs.PlaneMap.{next, ring, side, signed_edges}
use Rattle.plane_model.specs.Faces.{is_labelled}
use Rattle.plane_model.specs.Sets.{has_edge}
use Rattle.plane_model.proofs.SetLaws.{same_edges}
use Rattle.plane_model.proofs.RotationOrbits.{next_permutes}
use Rattle.plane_model.proofs.ComponentParts.{one_side}
use Rattle.rotation_check.specs.Darts.{RotationRows, IsRotation, map_of_rotation, signed_edge}
use Rattle.rotation_check.proofs.DartLists.{dart_place}
use Rattle.rotation_check.proofs.SmallestNext.{all_by, further}
use Rattle.euler_check.specs.Numbers.{Numbers, ArePartNumbers}
use Rattle.euler_check.proofs.Walking.{own_rows, there}

-- the faces of the rings of the first k darts, by the rings' numbers
pub record AreFaces (r : RotationRows) (rings : Numbers) (k : ℕ) (faces : List ℕ) : Type 0 where
  pub within : (d : ℕ) → d < k → get_or rings.of_darts d 0 < length faces
  pub has : (d : ℕ) → d < k → get_or faces (get_or rings.of_darts d 0) 0 ≡ side (map_of_rotation r) (signed_edge r.edges d)
  pub held : (x : ℕ) → x < length faces → (d : ℕ) × (d < k) × (get_or rings.of_darts d 0 ≡ x)

-- the face that stands at a ring's number
abbrev pub IsAt : List ℕ → ℕ → ℕ → Type 0
IsAt faces ring face = (ring < length faces) × ((d : ℕ) → face ≡ get_or faces ring d)

module _ (r : RotationRows) (is : IsRotation r) (rings : Numbers) (are : ArePartNumbers r.edges (ring (map_of_rotation r)) rings) where
  -- a ring that isn't among those so far is the next by its number
  is_next : (k : ℕ) (faces : List ℕ) → k < 2 * length r.edges → AreFaces r rings k faces → length faces ≤ get_or rings.of_darts k 0 → get_or rings.of_darts k 0 ≡ length faces
  is_next k faces h old new = elim (cases_lt (length faces) (get_or rings.of_darts k 0)) [
    | inl skipped ↦
        let below = are.below k h in
        let one = are.first (length faces) (omega arith) in
        let own = are.first (get_or rings.of_darts k 0) below in
        let before = are.in_order (length faces) (get_or rings.of_darts k 0) one.0 own.0 skipped one.1 own.1 in
        elim (cases_lt k own.0) [
          | inl later ↦ absurd (own.1.none_before k later refl)
          | inr first ↦
              let seen = old.within one.0 (omega arith) in
              let number : get_or rings.of_darts one.0 0 ≡ length faces = one.1.has in
              absurd (omega arith)
        ]
    | inr le ↦ omega arith
  ]

  -- one dart further, whose ring has its face already
  pub faces_known : (k ring face : ℕ) (faces : List ℕ) → AreFaces r rings k faces → ring ≡ get_or rings.of_darts k 0 → IsAt faces ring face → face ≡ side (map_of_rotation r) (signed_edge r.edges k) → AreFaces r rings (k + 1) faces
  faces_known k ring face faces old number at is_face =
      record {
        within = further (λ d. get_or rings.of_darts d 0 < length faces) k old.within (let among = at.0 in omega arith);
        has = further (λ d. get_or faces (get_or rings.of_darts d 0) 0 ≡ side (map_of_rotation r) (signed_edge r.edges d)) k old.has (ap (λ x. get_or faces x 0) (sym number) ∙ sym (at.1 0) ∙ is_face);
        held = λ x h. let d = old.held x h in let lt = d.1 in (d.0, omega arith, d.2);
      }

  -- one dart further, the first of its ring
  pub faces_next : (k ring face : ℕ) (faces : List ℕ) → k < 2 * length r.edges → AreFaces r rings k faces → ring ≡ get_or rings.of_darts k 0 → length faces ≤ ring → face ≡ side (map_of_rotation r) (signed_edge r.edges k) → AreFaces r rings (k + 1) (faces ++ face ∷ [])
  faces_next k ring face faces h old is_ring new is_face =
      let number = is_next k faces h old (omega arith) in
      let longer : length (faces ++ face ∷ []) ≡ length faces + 1 = length-append faces (face ∷ []) in
      record {
        within = further (λ d. get_or rings.of_darts d 0 < length (faces ++ face ∷ [])) k (λ d lt. let was = old.within d lt in omega arith) (omega arith);
        has = further (λ d. get_or (faces ++ face ∷ []) (get_or rings.of_darts d 0) 0 ≡ side (map_of_rotation r) (signed_edge r.edges d)) k
            (λ d lt. get_or_append_left faces (face ∷ []) 0 (get_or rings.of_darts d 0) (old.within d lt) ∙ old.has d lt)
            (ap (λ x. get_or (faces ++ face ∷ []) x 0) number ∙ last faces ∙ is_face);
        held = λ x lt. elim (cases_lt x (length faces)) [
          | inl low ↦ let d = old.held x low in let before = d.1 in (d.0, omega arith, d.2)
          | inr ge ↦ (k, omega arith, omega arith)
        ];
      }
    where
      last : (xs : List ℕ) → get_or (xs ++ face ∷ []) (length xs) 0 ≡ face
      last [] = refl
      last (x ∷ xs) = last xs

  -- a dart with another face than its ring has so far
  pub not_labelled : (k ring face known : ℕ) (faces : List ℕ) → k < 2 * length r.edges → AreFaces r rings k faces → ring ≡ get_or rings.of_darts k 0 → IsAt faces ring known → face ≡ side (map_of_rotation r) (signed_edge r.edges k) → (known ≡ face → ⊥)
      → is_labelled (map_of_rotation r) ≡ false
  not_labelled k ring face known faces h old number at is_face other = elim (cases_Bool (is_labelled (map_of_rotation r))) [
    | inl labelled ↦
        let d = old.held ring at.0 in
        let before = d.1 in
        let d_in : d.0 < 2 * length r.edges = omega arith in
        let one = one_side (own_rows r) is.rotation labelled (signed_edge r.edges d.0) (signed_edge r.edges k) (there r is d.0 d_in) ((are.same d.0 k d_in h).0 (d.2 ∙ number)) in
        absurd (other (at.1 0 ∙ ap (λ x. get_or faces x 0) (sym d.2) ∙ old.has d.0 before ∙ sym one ∙ sym is_face))
    | inr mixed ↦ mixed
  ]

  -- where all darts are gone through, rings have one face each
  pub labelled : (faces : List ℕ) → AreFaces r rings (2 * length r.edges) faces → is_labelled (map_of_rotation r) ≡ true
  labelled faces all = all_by (λ d. side (map_of_rotation r) (next (map_of_rotation r) d) == side (map_of_rotation r) d) (signed_edges (map_of_rotation r)) (λ d d_in.
      let us = signed_edges (map_of_rotation r) in
      let permutes = next_permutes (own_rows r) is.rotation in
      let k = dart_place (own_rows r) d d_in in
      let j = dart_place (own_rows r) (next (map_of_rotation r) d) (permutes.stays d d_in) in
      let on : has_edge (ring (map_of_rotation r) d) (next (map_of_rotation r) d) ≡ true = orbit_step same_edges us (next (map_of_rotation r)) permutes d d d_in (orbit_own same_edges us (next (map_of_rotation r)) d d_in) in
      let on_darts : has_edge (ring (map_of_rotation r) (signed_edge r.edges k.0)) (signed_edge r.edges j.0) ≡ true =
      subst (λ x. has_edge (ring (map_of_rotation r) x) (signed_edge r.edges j.0) ≡ true) (sym k.2) (subst (λ x. has_edge (ring (map_of_rotation r) d) x ≡ true) (sym j.2) on) in
      let number = (are.same k.0 j.0 k.1 j.1).1 on_darts in
      let sides = sym (all.has j.0 j.1) ∙ ap (λ x. get_or faces x 0) (sym number) ∙ all.has k.0 k.1 in
      eq-eqb _ _ (ap (side (map_of_rotation r)) (sym j.2) ∙ sides ∙ ap (side (map_of_rotation r)) k.2))
