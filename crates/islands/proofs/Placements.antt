-- The outer rings by their numbers are those of the map.
use Rattle.std.proofs.Common.{◌≡◌, ℕ, ◌*◌, ◌<◌, true, ◌==◌, List, [], ◌∷◌, map, length, refl, sym, ap, ◌∙◌, subst, arith, eq-eqb}
use Rattle.std.specs.Prelude.{slice_index, IsTrue}
use Rattle.std.proofs.lemmas.Bool.{or_left, or_right}
use Rattle.std.proofs.lemmas.List.{length-map}
use Rattle.plane_model.specs.declared.rows.EdgeRow.{EdgeRow}
use Rattle.plane_model.specs.declared.rows.FaceRow.{FaceRow}
use Rattle.plane_model.specs.Sets.{has}
use Rattle.plane_model.specs.PlaneMap.{PlaneMap, side, rings}
use Rattle.plane_model.specs.Faces.{outer_rings}
use Rattle.rotation_check.specs.Darts.{RotationRows, map_of_rotation, signed_edge}
use Rattle.euler_check.specs.Numbers.{Numbers}
use Rattle.islands.specs.declared.numbers.NumberedMap.{NumberedMap}
use Rattle.islands.specs.Darts.{AreDartsOf}
use Rattle.islands.specs.Numbered.{ring_at}
use Rattle.islands.specs.MapNumbers.{IsNumberedMap}
use Rattle.islands.specs.Placed.{map_with_faces, rows_with_faces}
use Rattle.islands.specs.Starts.{AreOuterRings}
use Rattle.islands.proofs.Collected.{has_index}
use Rattle.islands.proofs.NumberedMaps.{ring_of_dart, number_is}

starts_named : (edges : List EdgeRow) (m : PlaneMap) (darts : List ℕ) → map (signed_edge edges) darts ≡ rings m → (starts : List ℕ) → ((s : ℕ) → has starts s ≡ true → s < length darts) → map (signed_edge edges) (map (slice_index darts) starts) ≡ map (ring_at m) starts
starts_named edges m darts e [] below = refl
starts_named edges m darts e (s ∷ starts) below =
    ap (λ d. d ∷ map (signed_edge edges) (map (slice_index darts) starts)) (sym (ring_of_dart edges m darts e s (below s (or_left (s == s) _ (eq-eqb s s refl)))))
    ∙ ap (λ ds. ring_at m s ∷ ds) (starts_named edges m darts e starts (λ x on. below x (or_right (x == s) _ on)))

sides_named : (m : PlaneMap) (edges : List EdgeRow) (darts : List ℕ) → map (λ dart. side m (signed_edge edges dart)) darts ≡ map (side m) (map (signed_edge edges) darts)
sides_named m edges [] = refl
sides_named m edges (x ∷ darts) = ap (λ fs. side m (signed_edge edges x) ∷ fs) (sides_named m edges darts)

module _ (r : RotationRows) (faces : List FaceRow) (numbers : Numbers) (n : NumberedMap) (is : IsNumberedMap r faces numbers n) where
  pub outer_of : (dfaces dcomponents starts dstarts : List ℕ) (count : ℕ) → dfaces ≡ n.face_of.items → dcomponents ≡ n.component_of.items → count ≡ length n.face_ids.items → AreOuterRings dfaces dcomponents count starts → dstarts ≡ starts → map (ring_at (map_with_faces r faces)) dstarts ≡ outer_rings (map_with_faces r faces)
  outer_of dfaces dcomponents starts dstarts count ef ec en are es =
      let m = map_with_faces r faces in
      let of_faces : AreOuterRings n.face_of.items dcomponents count starts = subst (λ (fs : List ℕ). AreOuterRings fs dcomponents count starts) ef are in
      let of_components : AreOuterRings n.face_of.items n.component_of.items count starts = subst (λ (cs : List ℕ). AreOuterRings n.face_of.items cs count starts) ec of_faces in
      let of_all : AreOuterRings n.face_of.items n.component_of.items (length n.face_ids.items) starts = subst (λ k. AreOuterRings n.face_of.items n.component_of.items k starts) en of_components in
      ap (map (ring_at m)) es ∙ of_all (rows_with_faces r faces) (slice_index n.face_ids.items) is.system is.numbered

  pub starts_below : (dfaces starts dstarts : List ℕ) → dfaces ≡ n.face_of.items → ((s : ℕ) → IsTrue (has starts s) → s < length dfaces) → dstarts ≡ starts → (s : ℕ) → IsTrue (has dstarts s) → s < length n.face_of.items
  starts_below dfaces starts dstarts ef below es s on = subst (λ (fs : List ℕ). s < length fs) ef (below s (subst (λ (xs : List ℕ). has xs s ≡ true) es on))

  pub starts_within : (drings dstarts : List ℕ) → drings ≡ n.rings.items → ((s : ℕ) → IsTrue (has dstarts s) → s < length n.face_of.items) → (k : ℕ) → k < length dstarts → slice_index dstarts k < length drings
  starts_within drings dstarts er below k h =
      let it = below (slice_index dstarts k) (has_index dstarts k h) in
      let a = is.numbered.faces_many in
      let b : length n.rings.items ≡ length (rings (map_with_faces r faces)) = sym (length-map n.rings.items (signed_edge r.edges)) ∙ ap length is.ring_darts.are in
      let c = ap length er in
      omega arith

  pub starts_are : (drings dstarts places : List ℕ) → drings ≡ n.rings.items → places ≡ map (slice_index drings) dstarts → ((s : ℕ) → IsTrue (has dstarts s) → s < length n.face_of.items) → map (ring_at (map_with_faces r faces)) dstarts ≡ outer_rings (map_with_faces r faces)
      → AreDartsOf r.edges (outer_rings (map_with_faces r faces)) places
  starts_are drings dstarts places er ep below outer =
      let m = map_with_faces r faces in
      let e : places ≡ map (slice_index n.rings.items) dstarts = ep ∙ ap (λ xs. map (slice_index xs) dstarts) er in
      let a = is.numbered.faces_many in
      let b : length n.rings.items ≡ length (rings m) = sym (length-map n.rings.items (signed_edge r.edges)) ∙ ap length is.ring_darts.are in
      let below' : (s : ℕ) → has dstarts s ≡ true → s < length n.rings.items = λ s on. let it = below s on in omega arith in
      record {
        within = λ k h.
            let lt : k < length dstarts = (let l = ap length e ∙ length-map dstarts (slice_index n.rings.items) in omega arith) in
            subst (λ x. x < 2 * length r.edges) (sym (ap (λ xs. slice_index xs k) e ∙ number_is (slice_index n.rings.items) dstarts k lt)) (is.ring_darts.within (slice_index dstarts k) (below' (slice_index dstarts k) (has_index dstarts k lt)));
        are = ap (map (signed_edge r.edges)) e ∙ starts_named r.edges m n.rings.items is.ring_darts.are dstarts below' ∙ outer;
      }

  pub faces_are : (places sides : List ℕ) → sides ≡ map (λ dart. side (map_of_rotation r) (signed_edge r.edges dart)) places → AreDartsOf r.edges (outer_rings (map_with_faces r faces)) places → sides ≡ map (side (map_with_faces r faces)) (outer_rings (map_with_faces r faces))
  faces_are places sides e are = e ∙ sides_named (map_with_faces r faces) r.edges places ∙ ap (map (side (map_with_faces r faces))) are.are
