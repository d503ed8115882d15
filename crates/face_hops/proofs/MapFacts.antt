-- What the laws on faces say of the map of whole contents.
use Rattle.std.specs.Prelude.{slice_index, map}
use Rattle.std.proofs.Common.{◌≡◌, ℕ, ◌+◌, ◌-◌, ◌<◌, ◌≤◌, inl, inr, true, false, ◌==◌, List, [], ◌∷◌, length, refl, sym, ◌∙◌, subst, arith, Some}
use Rattle.std.proofs.lemmas.Bool.{cases_eq, eqb-true, eq-eqb, ne_eqb, or_cases, or_left, or_right, both_ways, and_parts}
use Rattle.plane_model.specs.Sets.{has}
use Rattle.plane_model.specs.PlaneMap.{PlaneMap}
use Rattle.plane_model.specs.Rotation.{is_face, has_faces}
use Rattle.plane_model.specs.Lists.{adjacent}
use Rattle.plane_model.specs.Hops.{distance}
use Rattle.placement_laws.specs.Placing.{IsLabelledRotation}
use Rattle.placement_laws.proofs.Tables.{labelled_rotation_of}
use Rattle.code_laws.specs.Code.{mate}
use Rattle.code_laws.proofs.Mates.{mate_laws}
use Rattle.file_laws.specs.Contents.{Contents}
use Rattle.file_laws.specs.MapOfFile.{face_at_place, rows_of_contents}
use Rattle.file_laws.specs.Lawful.{is_whole}
use Rattle.file_laws.proofs.Lists.{index-has}
use Rattle.file_laws.proofs.Rotation.{ring_place, face_there}
use Rattle.file_laws.proofs.Consistent.{range_of, rotation_of, labelled_of, placed_of}
use Rattle.file_laws.proofs.FiveCounts.{counts_of_map}
use Rattle.navigate.specs.Bound.{map_with}
use Rattle.navigate.specs.Beside.{place_across}
use Rattle.navigate.proofs.Facts.{w, sound_code, face_test, place_next}
use Rattle.navigate.proofs.HoleLaws.{one_place}
use Rattle.face_hops.proofs.Beside.{adjacent-sym, adjacent_known}
use Rattle.face_hops.proofs.Ways.{IsNearest}
use Rattle.face_hops.proofs.Joined.{faces_joined}

module _ (c : Contents) (h : is_whole c ≡ true) where
  abbrev m : PlaneMap
  m = map_with c

  pub rows_labelled : IsLabelledRotation (rows_of_contents c)
  rows_labelled = labelled_rotation_of (rows_of_contents c) (range_of c h) (rotation_of c h) (labelled_of c h)

  faces_there : has_faces m ≡ true
  faces_there = (and_parts _ (has_faces m) (rotation_of c h)).1

  pub beside-sym : (f x : ℕ) → has (adjacent m f) x ≡ true → has (adjacent m x) f ≡ true
  beside-sym = adjacent-sym (rows_of_contents c) rows_labelled (placed_of c h)

  pub beside-known : (f x : ℕ) → has (adjacent m f) x ≡ true → is_face m x ≡ true
  beside-known = adjacent_known (rows_of_contents c) rows_labelled (placed_of c h) faces_there

  pub a_path : (f g : ℕ) → is_face m f ≡ true → is_face m g ≡ true → (k : ℕ) × (distance m f g ≡ Some k) × IsNearest m g k f
  a_path = faces_joined (rows_of_contents c) rows_labelled (placed_of c h) faces_there

  pub as_many : length m.faces ≡ length c.faces
  as_many = (counts_of_map c h).faces

  pub place_one : (p q : ℕ) → p ≤ length c.faces → q ≤ length c.faces → face_at_place c p ≡ face_at_place c q → p ≡ q
  place_one = one_place c h

  pub known_place : (f : ℕ) → is_face m f ≡ true → (p : ℕ) × (p ≤ length c.faces) × (face_at_place c p ≡ f)
  known_place f there = elim (or_cases (f == 0) (has m.faces f) there) [
    | inl z ↦ (0, omega arith, sym (eqb-true f 0 z))
    | inr on ↦ let i = index-has c.faces f (face_test c h f ∙ on) in let low = i.1 in (i.0 + 1, omega (arith, low), place_next c i.0 ∙ i.2)
  ]

  pub face_known : (p : ℕ) → p ≤ length c.faces → is_face m (face_at_place c p) ≡ true
  face_known p low = elim (cases_eq p 0) [
    | inl z ↦
        let is : face_at_place c p ≡ 0 = rw (eq-eqb p 0 z) refl in
        or_left (face_at_place c p == 0) (has m.faces (face_at_place c p)) (eq-eqb (face_at_place c p) 0 is)
    | inr n ↦
        let is : face_at_place c p ≡ slice_index c.faces (p - 1) = rw (ne_eqb p 0 n) refl in
        or_right (face_at_place c p == 0) (has m.faces (face_at_place c p)) (subst (λ x. has m.faces x ≡ true) (sym is) (face_there c (w c h) (p - 1) (omega (arith, n, low))))
  ]

  across-low : (p : ℕ) → p < length c.code.a → place_across c p ≤ length c.faces
  unfolding place_across
  across-low p l = ring_place c (w c h) (mate c.code p) (mate_laws c.code (sound_code c h) p l).within

  pub all_low : (ps : List ℕ) → ((x : ℕ) → has ps x ≡ true → x < length c.code.a) → (y : ℕ) → has (map (place_across c) ps) y ≡ true → y ≤ length c.faces
  all_low [] within y there = absurd (both_ways false refl there)
  all_low (p ∷ ps) within y there =
      elim (or_cases (y == place_across c p) (has (map (place_across c) ps) y) there) [
        | inl e ↦ let same = eqb-true y (place_across c p) e in let low = across-low p (within p (or_left (p == p) (has ps p) (eq-eqb p p refl))) in omega (arith, same, low)
        | inr more ↦ all_low ps (λ x on. within x (or_right (x == p) (has ps x) on)) y more
      ]
