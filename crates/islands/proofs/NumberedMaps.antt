-- What numbers a map.
use Rattle.std.proofs.Common.{◌≡◌, ℕ, ◌*◌, ◌<◌, ◌≤◌, inl, inr, ℤ, Bool, true, ◌==◌, List, [], ◌∷◌, map, filter, length, refl, sym, ap, ◌∙◌, subst, arith, eq-eqb}
use Rattle.std.specs.Prelude.{slice_index, ◌↔◌, IsTrue}
use Rattle.std.proofs.lemmas.Bool.{eqb-true, cases_Bool}
use Rattle.std.proofs.lemmas.List.{length-map, get_or-map}
use Rattle.topo_base.specs.SignedEdge.{same_edge}
use Rattle.orbits.proofs.Lists.{among, same_tests}
use Rattle.plane_model.proofs.SetLaws.{same_edges}
use Rattle.plane_model.specs.declared.rows.EdgeRow.{EdgeRow}
use Rattle.plane_model.specs.declared.rows.FaceRow.{FaceRow}
use Rattle.plane_model.specs.Sets.{has, has_edge, rising}
use Rattle.plane_model.specs.PlaneMap.{PlaneMap, signed_edges, smallest, side, ring, rings}
use Rattle.plane_model.specs.Rotation.{is_face}
use Rattle.plane_model.specs.Component.{component, components}
use Rattle.plane_model.specs.Faces.{is_labelled}
use Rattle.plane_model.specs.Orders.{is_strictly_rising}
use Rattle.plane_model.proofs.Alone.{rotation-alone, labelled-alone, rings-alone, component-alone, components-alone}
use Rattle.rotation_check.specs.Darts.{RotationRows, IsRotation, map_of_rotation, signed_edge}
use Rattle.rotation_check.proofs.DartLists.{signed_there, number_of-signed, dart_edges, length-dart_edges}
use Rattle.euler_check.specs.Numbers.{Numbers, ArePartNumbers}
use Rattle.placement_laws.specs.Placing.{IsLabelledRotation}
use Rattle.islands.specs.declared.numbers.NumberedMap.{NumberedMap}
use Rattle.islands.specs.Darts.{AreDartsOf}
use Rattle.islands.specs.Numbered.{ring_at}
use Rattle.islands.specs.MapNumbers.{IsNumberedMap}
use Rattle.islands.specs.Placed.{AreFacesOf, map_with_faces, rows_with_faces}
use Rattle.islands.proofs.Members.{at}
use Rattle.islands.proofs.LeastDarts.{at_map}
use Rattle.islands.proofs.FaceNumbers.{other_ids, ids_rise, places_apart}

pub labelled_system : (r : RotationRows) (faces : List FaceRow) → IsRotation r → is_labelled (map_of_rotation r) ≡ true → AreFacesOf r faces → IsLabelledRotation (rows_with_faces r faces)
labelled_system r faces is labelled of_faces =
    record {
      edges = is.edges;
      ids = is.ids;
      faces = of_faces.distinct;
      rotation = sym (rotation-alone (rows_with_faces r faces)) ∙ is.rotation;
      labelled = sym (labelled-alone (rows_with_faces r faces)) ∙ labelled;
    }

-- a dart's face is among the ids
pub side_there : (r : RotationRows) (faces : List FaceRow) → AreFacesOf r faces → (dart : ℕ) → dart < 2 * length r.edges → has (0 ∷ rising (other_ids faces)) (side (map_of_rotation r) (signed_edge r.edges dart)) ≡ true
side_there r faces of_faces dart h =
    let m = map_with_faces r faces in
    among same_edges (λ d. is_face m (side m d)) (signed_edges m) (signed_edge r.edges dart) of_faces.there (signed_there (rows_with_faces r faces) dart h)

pub numbers_with_faces : (r : RotationRows) (faces : List FaceRow) (numbers : Numbers) → ArePartNumbers r.edges (component (map_of_rotation r)) numbers → ArePartNumbers r.edges (component (map_with_faces r faces)) numbers
numbers_with_faces r faces numbers are =
    let t = rows_with_faces r faces in
    record {
      size = are.size;
      below = are.below;
      same = λ d e hd he. subst (λ ds. (slice_index numbers.of_darts d ≡ slice_index numbers.of_darts e) ↔ IsTrue (has_edge ds (signed_edge r.edges e))) (component-alone t (signed_edge r.edges d)) (are.same d e hd he);
      first = are.first;
      in_order = are.in_order;
    }

-- the ring of a number is that of its dart
pub ring_of_dart : (edges : List EdgeRow) (m : PlaneMap) (darts : List ℕ) → map (signed_edge edges) darts ≡ rings m → (i : ℕ) → i < length darts → ring_at m i ≡ signed_edge edges (slice_index darts i)
ring_of_dart edges m darts e i h = subst (λ rs. at rs i ≡ signed_edge edges (slice_index darts i)) e (at_map edges darts i h)

pub number_is : (f : ℕ → ℕ) (xs : List ℕ) (i : ℕ) → i < length xs → slice_index (map f xs) i ≡ f (slice_index xs i)
number_is f xs i h = get_or-map f xs i 0 0 h

fewer_filtered : (p : ℤ → Bool) (ds : List ℤ) → length (filter p ds) ≤ length ds
fewer_filtered p [] = omega arith
fewer_filtered p (d ∷ ds) = let more = fewer_filtered p ds in elim (cases_Bool (p d)) [ inl e ↦ rw e (omega arith) | inr e ↦ rw e (omega arith) ]

all_filtered : (ds : List ℤ) → filter (λ d. true) ds ≡ ds
all_filtered [] = refl
all_filtered (d ∷ ds) = ap (λ xs. d ∷ xs) (all_filtered ds)

-- there are no more rings than darts
pub few_rings : (r : RotationRows) (faces : List FaceRow) → length (rings (map_with_faces r faces)) ≤ 2 * length r.edges
few_rings r faces =
    let m = map_with_faces r faces in
    let fewer = fewer_filtered (λ d. same_edge d (smallest d (ring m d))) (signed_edges m) in
    let all : length (signed_edges m) ≡ 2 * length r.edges = sym (ap length (all_filtered (signed_edges m))) ∙ number_of-signed (λ d. true) (rows_with_faces r faces) ∙ ap length (all_filtered (dart_edges r.edges)) ∙ length-dart_edges r.edges in
    omega arith

module _ (r : RotationRows) (faces : List FaceRow) (numbers : Numbers) (n : NumberedMap) (is : IsRotation r) (labelled : is_labelled (map_of_rotation r) ≡ true) (of_faces : AreFacesOf r faces) (are : ArePartNumbers r.edges (component (map_of_rotation r)) numbers) (ring_darts : AreDartsOf r.edges (rings (map_of_rotation r)) n.rings.items)
    (component_darts : AreDartsOf r.edges (components (map_of_rotation r)) n.components.items) (ids : n.face_ids.items ≡ 0 ∷ rising (other_ids faces)) (many : length n.face_of.items ≡ length n.rings.items)
    (below : (k : ℕ) → k < length n.face_of.items → slice_index n.face_of.items k < length n.face_ids.items) (sides : (k : ℕ) → k < length n.face_of.items → slice_index n.face_ids.items (slice_index n.face_of.items k) ≡ side (map_of_rotation r) (signed_edge r.edges (slice_index n.rings.items k)))
    (their : n.component_of.items ≡ map (slice_index numbers.of_darts) n.rings.items) where
  rings_are : map (signed_edge r.edges) n.rings.items ≡ rings (map_with_faces r faces)
  rings_are = ring_darts.are ∙ rings-alone (rows_with_faces r faces)

  as_many_rings : length n.rings.items ≡ length (rings (map_with_faces r faces))
  as_many_rings = sym (length-map n.rings.items (signed_edge r.edges)) ∙ ap length rings_are

  as_many_components : length n.component_of.items ≡ length n.rings.items
  as_many_components = ap length their ∙ length-map n.rings.items (slice_index numbers.of_darts)

  component_number : (i : ℕ) → i < length n.rings.items → slice_index n.component_of.items i ≡ slice_index numbers.of_darts (slice_index n.rings.items i)
  component_number i h = ap (λ xs. slice_index xs i) their ∙ number_is (slice_index numbers.of_darts) n.rings.items i h

  alike : (i j : ℕ) → i < length n.rings.items → j < length n.rings.items → has_edge (component (map_with_faces r faces) (ring_at (map_with_faces r faces) i)) (ring_at (map_with_faces r faces) j) ≡ (slice_index n.component_of.items i == slice_index n.component_of.items j)
  alike i j hi hj =
      let m = map_with_faces r faces in
      let d : ℕ = slice_index n.rings.items i in
      let e : ℕ = slice_index n.rings.items j in
      let same = (numbers_with_faces r faces numbers are).same d e (ring_darts.within i hi) (ring_darts.within j hj) in
      let a : ring_at m i ≡ signed_edge r.edges d = ring_of_dart r.edges m n.rings.items rings_are i hi in
      let b : ring_at m j ≡ signed_edge r.edges e = ring_of_dart r.edges m n.rings.items rings_are j hj in
      let x = component_number i hi in
      let y = component_number j hj in
      same_tests (has_edge (component m (ring_at m i)) (ring_at m j)) (slice_index n.component_of.items i == slice_index n.component_of.items j)
      (λ on. eq-eqb (slice_index n.component_of.items i) (slice_index n.component_of.items j) (x ∙ same.1 (subst (λ z. has_edge (component m (signed_edge r.edges d)) z ≡ true) b (subst (λ z. has_edge (component m z) (ring_at m j) ≡ true) a on)) ∙ sym y))
      (λ eq. let f = sym x ∙ eqb-true (slice_index n.component_of.items i) (slice_index n.component_of.items j) eq ∙ y in
      subst (λ z. has_edge (component m z) (ring_at m j) ≡ true) (sym a) (subst (λ z. has_edge (component m (signed_edge r.edges d)) z ≡ true) (sym b) (same.0 f)))

  pub numbered_map : IsNumberedMap r faces numbers n
  numbered_map =
      let m = map_with_faces r faces in
      let t = rows_with_faces r faces in
      let rise = subst (λ xs. is_strictly_rising xs ≡ true) (sym ids) (ids_rise faces of_faces.distinct) in
      let all = as_many_components in
      record {
        system = labelled_system r faces is labelled of_faces;
        of_components = numbers_with_faces r faces numbers are;
        ring_darts = record { within = ring_darts.within; are = rings_are };
        component_darts = record { within = component_darts.within; are = component_darts.are ∙ components-alone t };
        face_ids = ids;
        component_numbers = their;
        numbered = record {
          faces_many = many ∙ as_many_rings;
          components_many = all ∙ as_many_rings;
          first = ap (λ xs. slice_index xs 0) ids;
          apart = λ f g hf hg same. places_apart n.face_ids.items rise f g hf hg same;
          sides = λ i h. let lt : i < length n.rings.items = omega arith in ap (side m) (ring_of_dart r.edges m n.rings.items rings_are i lt) ∙ sym (sides i h);
          together = λ i j hi hj. let li : i < length n.rings.items = omega arith in let lj : j < length n.rings.items = omega arith in alike i j li lj;
        };
        below = record {
          same = all ∙ sym many;
          some = subst (λ xs. 0 < length xs) (sym ids) (omega arith);
          face = below;
          component = λ i h. let lt : i < length n.rings.items = omega arith in subst (λ x. x < numbers.count) (sym (component_number i lt)) (are.below (slice_index n.rings.items i) (ring_darts.within i lt));
        };
        short = (let a = few_rings r faces in let b = as_many_rings in let few = is.few_edges in omega arith);
      }
