-- What the laws on outlines say of the map of whole contents, and its signed edges by number.
use Rattle.std.specs.Prelude.{slice_index, slice_index_or, map, flat_map, is_some, unwrap_or, if◌then◌else◌, neg_ℤ}
use Rattle.std.proofs.Common.{◌≡◌, ℕ, zero, suc, ◌+◌, ◌*◌, ◌/◌, ◌%◌, ◌==◌, ◌<◌, ◌≤◌, inl, inr, ℤ, pos, negsuc, Bool, true, false, List, [], ◌∷◌, length, refl, sym, ap, ◌∙◌, subst, arith, Some}
use Rattle.std.proofs.lemmas.Bool.{and_parts, cases_Bool, cases_eq, eq-eqb, ne_eqb, both_ways}
use Rattle.std.proofs.lemmas.List.{length-map}
use Rattle.orbits.proofs.Lists.{among}
use Rattle.topo_base.specs.SignedEdge.{edge_of, is_forward, reverse}
use Rattle.plane_model.specs.declared.rows.EdgeRow.{EdgeRow}
use Rattle.plane_model.specs.Sets.{has, has_edge, rising}
use Rattle.plane_model.specs.PlaneMap.{PlaneMap, signed_edges, side, next}
use Rattle.plane_model.specs.Rotation.{is_face, has_faces, is_face_or_none, node_face}
use Rattle.plane_model.specs.Answers.{has_signed_edge}
use Rattle.plane_model.specs.Orders.{is_rising_edges, is_strictly_rising}
use Rattle.plane_model.proofs.SetLaws.{same_edges}
use Rattle.plane_model.proofs.Sorting.{rising-has, strictly_rising_of, rising_strictly}
use Rattle.plane_model.proofs.SortedEdges.{signed-has}
use Rattle.plane_model.proofs.RotationOrbits.{edge_of-reverse}
use Rattle.placement_laws.specs.Placing.{IsLabelledRotation}
use Rattle.placement_laws.proofs.Tables.{labelled_rotation_of}
use Rattle.rotation_check.proofs.RoundWalk.{length-signed}
use Rattle.code_laws.specs.Code.{Code}
use Rattle.id_names.specs.Names.{number_of}
use Rattle.id_names.proofs.NumberLaws.{number_of-at}
use Rattle.file_laws.specs.Contents.{Contents}
use Rattle.file_laws.specs.MapOfFile.{rows_of_contents, edge_row}
use Rattle.file_laws.specs.Lawful.{is_whole}
use Rattle.file_laws.proofs.Consistent.{range_of, rotation_of, labelled_of}
use Rattle.file_laws.proofs.Lists.{keys_kept, length-rising, index-has, rising_apart, names_apart}
use Rattle.file_laws.proofs.Rotation.{signed_rise}
use Rattle.navigate.specs.Bound.{map_with}
use Rattle.navigate.proofs.Facts.{w, edge_test}
use Rattle.region_border.specs.Numbered.{signed_number, mark_of}
use Rattle.region_border.proofs.Outlines.{IsTurned, turned_of}

-- the two signed edges of each of some edges, by place
abbrev pairs : List ℕ → List ℤ
pairs es = flat_map (λ e. pos e ∷ neg_ℤ (pos e) ∷ []) es

pair_forward : (es : List ℕ) (k : ℕ) → k < length es → slice_index_or (pairs es) (2 * k) (pos 0) ≡ pos (slice_index es k)
pair_forward [] k l = absurd (omega (arith, l))
pair_forward (e ∷ es) zero l = refl
pair_forward (e ∷ es) (suc k) l =
    let two : 2 * suc k ≡ suc (suc (2 * k)) = omega arith in
    ap (λ x. slice_index_or (pairs (e ∷ es)) x (pos 0)) two ∙ pair_forward es k (omega (arith, l))

pair_backward : (es : List ℕ) (k : ℕ) → k < length es → slice_index_or (pairs es) (2 * k + 1) (pos 0) ≡ neg_ℤ (pos (slice_index es k))
pair_backward [] k l = absurd (omega (arith, l))
pair_backward (e ∷ es) zero l = refl
pair_backward (e ∷ es) (suc k) l =
    let two : 2 * suc k + 1 ≡ suc (suc (2 * k + 1)) = omega arith in
    ap (λ x. slice_index_or (pairs (e ∷ es)) x (pos 0)) two ∙ pair_backward es k (omega (arith, l))

-- a signed edge by its edge and its direction
same_parts : (d e : ℤ) → edge_of d ≡ edge_of e → is_forward d ≡ is_forward e → d ≡ e
same_parts (pos n) (pos k) e f = ap pos e
same_parts (pos n) (negsuc k) e f = absurd (both_ways true f refl)
same_parts (negsuc n) (pos k) e f = absurd (both_ways false refl f)
same_parts (negsuc n) (negsuc k) e f = ap negsuc (omega (arith, e))

abbrev directed_mark : Bool → ℕ → ℕ
directed_mark forward number = if forward then 2 * number else 2 * number + 1

one_mark : (a b : Bool) (x y : ℕ) → directed_mark a x ≡ directed_mark b y → (a ≡ b) × (x ≡ y)
one_mark true true x y e = (refl, omega (arith, e))
one_mark true false x y e = absurd (omega (arith, e))
one_mark false true x y e = absurd (omega (arith, e))
one_mark false false x y e = (refl, omega (arith, e))

module _ (c : Contents) (h : is_whole c ≡ true) where
  abbrev m : PlaneMap
  m = map_with c

  rows_labelled : IsLabelledRotation (rows_of_contents c)
  rows_labelled = labelled_rotation_of (rows_of_contents c) (range_of c h) (rotation_of c h) (labelled_of c h)

  pub turned : IsTurned m
  turned = turned_of (rows_of_contents c) rows_labelled.rotation rows_labelled.labelled

  pub rise : is_rising_edges (signed_edges m) ≡ true
  rise = signed_rise c (w c h)

  pub many : length (signed_edges m) ≡ 2 * length c.edges
  many =
      let rows : length (rows_of_contents c).edges ≡ length c.edges = length-map (rising c.edges) (λ id. edge_row c id (unwrap_or (number_of c.edges id) 0)) ∙ length-rising c.edges in
      length-signed (rows_of_contents c) ∙ ap (λ n. 2 * n) rows

  -- how many positions the code has
  pub as_long : (k : Code) (n : ℕ) → k ≡ c.code → n ≡ length k.a → n ≡ 2 * length c.edges
  as_long k n same e = e ∙ ap (λ (x : Code). length x.a) same ∙ (w c h).sizes.positions

  edge_ids : map (λ (r : EdgeRow). r.id) (rows_of_contents c).edges ≡ rising c.edges
  edge_ids = keys_kept (λ (r : EdgeRow). r.id) (λ id. edge_row c id (unwrap_or (number_of c.edges id) 0)) (λ x. refl) (rising c.edges)

  -- a signed edge is the map's exactly where it is listed
  pub known-listed : (d : ℤ) → has_signed_edge m d ≡ has_edge (signed_edges m) d
  known-listed d =
      let e = edge_of d in
      sym (edge_test c e)
      ∙ sym (signed-has m d ∙ rising-has (map (λ (r : EdgeRow). r.id) (rows_of_contents c).edges) e ∙ ap (λ xs. has xs e) edge_ids ∙ rising-has c.edges e)

  pub known_next : (d : ℤ) → has_signed_edge m d ≡ true → has_signed_edge m (next m d) ≡ true
  known_next d k = known-listed (next m d) ∙ turned.nexts.stays d (sym (known-listed d) ∙ k)

  pub known_reverse : (d : ℤ) → has_signed_edge m d ≡ true → has_signed_edge m (reverse d) ≡ true
  known_reverse d k = ap (λ e. is_some (m.edges.at e)) (edge_of-reverse d) ∙ k

  faces_there : has_faces m ≡ true
  faces_there = (and_parts _ (has_faces m) (rotation_of c h)).1

  pub known_face : (d : ℤ) → has_signed_edge m d ≡ true → is_face m (side m d) ≡ true
  known_face d k = among same_edges (λ x. is_face m (side m x)) (signed_edges m) d (and_parts _ _ faces_there).0 (sym (known-listed d) ∙ k)

  -- the number of an edge
  number-known : (d : ℤ) → has_signed_edge m d ≡ true → (x : ℕ) × (x < length c.edges) × (slice_index c.edges x ≡ edge_of d) × (number_of c.edges (edge_of d) ≡ Some x)
  number-known d k =
      let i = index-has c.edges (edge_of d) (edge_test c (edge_of d) ∙ k) in
      (i.0, i.1, i.2, number_of-at c.edges i.0 (edge_of d) (w c h).edge_names.distinct i.1 i.2)

  pub mark_is : (d : ℤ) (x : ℕ) → x < length c.edges → slice_index c.edges x ≡ edge_of d → mark_of c d ≡ (if is_forward d then 2 * x else 2 * x + 1)
  unfolding mark_of
  mark_is d x l e = ap (λ o. directed_mark (is_forward d) (unwrap_or o 0)) (number_of-at c.edges x (edge_of d) (w c h).edge_names.distinct l e)

  pub mark_low : (d : ℤ) → has_signed_edge m d ≡ true → mark_of c d < 2 * length c.edges
  mark_low d k =
      let x = number-known d k in
      let is = mark_is d x.0 x.1 x.2 in
      let low = x.1 in
      subst (λ y. y < 2 * length c.edges) (sym is) (elim (cases_Bool (is_forward d)) [ inl t ↦ rw t (omega (arith, low)) | inr f ↦ rw f (omega (arith, low)) ])

  -- no two signed edges have one number
  pub mark_one : (d e : ℤ) → has_signed_edge m d ≡ true → has_signed_edge m e ≡ true → mark_of c d ≡ mark_of c e → d ≡ e
  mark_one d e k l same =
      let x = number-known d k in
      let y = number-known e l in
      let both = one_mark (is_forward d) (is_forward e) x.0 y.0 (sym (mark_is d x.0 x.1 x.2) ∙ same ∙ mark_is e y.0 y.1 y.2) in
      same_parts d e (sym x.2 ∙ ap (slice_index c.edges) both.1 ∙ y.2) both.0

  -- the signed edge at a place, by the ids in rising order
  pub number_is : (place id : ℕ) → place < 2 * length c.edges → id ≡ slice_index (rising c.edges) (place / 2) → signed_number c place ≡ (if place % 2 == 0 then pos id else neg_ℤ (pos id))
  unfolding signed_number signed_edges
  number_is place id l e =
      let apart = names_apart c.edges (w c h).edge_names in
      let keys : m.edges.keys ≡ rising c.edges = ap rising edge_ids ∙ sym (strictly_rising_of (rising c.edges) (rising c.edges) (rising_apart c.edges apart) (rising_strictly c.edges apart) (λ x. refl)) in
      let half = place / 2 in
      let long = length-rising c.edges in
      let low : half < length (rising c.edges) = omega (arith, l, long) in
      elim (cases_eq (place % 2) 0) [
        | inl z ↦
            let at : place ≡ 2 * half = omega (arith, z) in
            rw (eq-eqb (place % 2) 0 z) (ap (λ es. slice_index_or (pairs es) place (pos 0)) keys ∙ ap (λ x. slice_index_or (pairs (rising c.edges)) x (pos 0)) at ∙ pair_forward (rising c.edges) half low ∙ ap pos (sym e))
        | inr n ↦
            let at : place ≡ 2 * half + 1 = omega (arith, n) in
            rw (ne_eqb (place % 2) 0 n) (ap (λ es. slice_index_or (pairs es) place (pos 0)) keys ∙ ap (λ x. slice_index_or (pairs (rising c.edges)) x (pos 0)) at ∙ pair_backward (rising c.edges) half low ∙ ap (λ x. neg_ℤ (pos x)) (sym e))
      ]
