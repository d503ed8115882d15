-- What is wrong with a numbered map.
use Rattle.std.proofs.Common.{◌≡◌, ℕ, suc, ◌+◌, ◌-◌, ◌<◌, ◌≤◌, ℤ, pos, Bool, true, false, not, ◌==◌, List, ◌∷◌, map, length, get_or, refl, sym, ap, ◌∙◌, subst, arith, eq-eqb, Option, Some, None}
use Rattle.std.specs.Prelude.{slice_index, option_map, is_some, IsTrue}
use Rattle.std.specs.List.{list_any}
use Rattle.std.proofs.lemmas.Bool.{eqb-true}
use Rattle.std.proofs.lemmas.List.{length-map, get_or-map, get_or_default}
use Rattle.topo_base.specs.SignedEdge.{edge_of}
use Rattle.topo_base.specs.declared.refusal.Refusal.{Refusal}
use Rattle.topo_base.specs.declared.refusal.Refusal.TheVariants as refusal
use Rattle.orbits.proofs.Lists.{same_tests, any_from}
use Rattle.plane_model.proofs.SetLaws.{same_edges}
use Rattle.plane_model.specs.declared.rows.EdgeRow.{EdgeRow}
use Rattle.plane_model.specs.declared.rows.FaceRow.{FaceRow}
use Rattle.plane_model.specs.Sets.{has, has_edge, or_else}
use Rattle.plane_model.specs.PlaneMap.{PlaneMap, signed_edges, smallest, side, ring, rings}
use Rattle.plane_model.specs.Component.{component, components}
use Rattle.plane_model.specs.Faces.{is_reached, is_on_ring, outer_rings}
use Rattle.plane_model.specs.Faults.{unless, unplaced, bare_face, face_cycle, placement_fault}
use Rattle.rotation_check.specs.Darts.{RotationRows, signed_edge}
use Rattle.euler_check.specs.Numbers.{Numbers}
use Rattle.placement_laws.proofs.Parts.{parts_of, component_self, components-rings, rings-signed, ring_name-on, ring_name-there, ring_side}
use Rattle.islands.specs.declared.numbers.NumberedMap.{NumberedMap}
use Rattle.islands.specs.Rounds.{is_marked}
use Rattle.islands.specs.Numbered.{ring_at}
use Rattle.islands.specs.MapNumbers.{AreOnRingMarked, AreReachedMarked, IsNumberedMap}
use Rattle.islands.specs.Placed.{map_with_faces, rows_with_faces}
use Rattle.islands.proofs.Members.{in_at, at_in, any_edge, ring_in}
use Rattle.islands.proofs.Collected.{has_index, Contains_from_has}
use Rattle.islands.proofs.LeastDarts.{at_is}
use Rattle.islands.proofs.NumberedMaps.{ring_of_dart, number_is}
use Rattle.islands.proofs.Found.{found_first, found_none, or_none, any_of_map}
use Rattle.islands.proofs.Starts.{reached_of_starts}

dart_at : (edges : List EdgeRow) (darts : List ℕ) (ds : List ℤ) → map (signed_edge edges) darts ≡ ds → (k : ℕ) → k < length darts → get_or ds k (pos 0) ≡ signed_edge edges (slice_index darts k)
dart_at edges darts ds e k h = subst (λ xs. get_or xs k (pos 0) ≡ signed_edge edges (slice_index darts k)) e (get_or-map (signed_edge edges) darts k 0 (pos 0) h)

as_many : (edges : List EdgeRow) (darts : List ℕ) (ds : List ℤ) → map (signed_edge edges) darts ≡ ds → length ds ≡ length darts
as_many edges darts ds e = sym (ap length e) ∙ length-map darts (signed_edge edges)

module _ (m : PlaneMap) (edges : List EdgeRow) (darts : List ℕ) (number : ℕ → ℕ) (reached : List Bool) (e : map (signed_edge edges) darts ≡ components m) (told : (k : ℕ) → k < length darts → is_marked reached (number (slice_index darts k)) ≡ is_reached m (signed_edge edges (slice_index darts k))) where
  test : (k : ℕ) (b : Bool) → k < length darts → is_marked reached (number (slice_index darts k)) ≡ b → not (is_reached m (get_or (components m) k (pos 0))) ≡ not b
  test k b h is = ap (λ d. not (is_reached m d)) (dart_at edges darts (components m) e k h) ∙ ap not (sym (told k h) ∙ is)

  pub unplaced_at : (k : ℕ) → k < length darts → ((j : ℕ) → j < k → is_marked reached (number (slice_index darts j)) ≡ true) → is_marked reached (number (slice_index darts k)) ≡ false → unplaced m ≡ Some (refusal.Unplaced (edge_of (signed_edge edges (slice_index darts k))))
  unplaced_at k h before here =
      let long = as_many edges darts (components m) e in
      ap (option_map (λ d. refusal.Unplaced (edge_of d)))
      (found_first (λ d. not (is_reached m d)) (components m) (pos 0) k (omega arith) (λ j lt. test j true (omega arith) (before j lt)) (test k false h here) ∙ ap (λ d. Some d) (dart_at edges darts (components m) e k h))

  pub none_unplaced : ((j : ℕ) → j < length darts → is_marked reached (number (slice_index darts j)) ≡ true) → unplaced m ≡ None
  none_unplaced before =
      let long = as_many edges darts (components m) e in
      ap (option_map (λ d. refusal.Unplaced (edge_of d))) (found_none (λ d. not (is_reached m d)) (components m) (pos 0) (λ j lt. let h : j < length darts = omega arith in test j true h (before j h)))

module _ (m : PlaneMap) (ids : List ℕ) (on_ring : List Bool) (e : ids ≡ 0 ∷ m.faces) (told : (k : ℕ) → k < length ids → is_marked on_ring k ≡ is_on_ring m (slice_index ids k)) where
  bare_test : (k : ℕ) (b : Bool) → suc k < length ids → is_marked on_ring (suc k) ≡ b → not (is_on_ring m (get_or m.faces k 0)) ≡ not b
  bare_test k b h is = ap (λ xs. not (is_on_ring m (slice_index xs (suc k)))) (sym e) ∙ ap not (sym (told (suc k) h) ∙ is)

  pub bare_at : (k : ℕ) → 1 ≤ k → k < length ids → ((j : ℕ) → 1 ≤ j → j < k → is_marked on_ring j ≡ true) → is_marked on_ring k ≡ false → bare_face m ≡ Some (refusal.BareFace (slice_index ids k))
  bare_at k some h before here =
      let j : ℕ = k - 1 in
      let is : k ≡ suc j = omega arith in
      let long : length ids ≡ suc (length m.faces) = ap length e in
      let found = found_first (λ f. not (is_on_ring m f)) m.faces 0 j (omega arith) (λ i lt. bare_test i true (omega arith) (before (suc i) (omega arith) (omega arith))) (bare_test j false (omega arith) (subst (λ z. is_marked on_ring z ≡ false) is here)) in
      ap (option_map refusal.BareFace) found ∙ ap (λ f. Some (refusal.BareFace f)) (ap (λ xs. slice_index xs (suc j)) (sym e) ∙ ap (slice_index ids) (sym is))

  pub none_bare : ((j : ℕ) → 1 ≤ j → j < length ids → is_marked on_ring j ≡ true) → bare_face m ≡ None
  none_bare before =
      let long : length ids ≡ suc (length m.faces) = ap length e in
      ap (option_map refusal.BareFace) (found_none (λ f. not (is_on_ring m f)) m.faces 0 (λ j lt. bare_test j true (omega arith) (before (suc j) (omega arith) (omega arith))))

one_more : (k : ℕ) → suc k ≡ k + 1
one_more k = omega arith

pub same_counts : (a b c x y z : ℕ) → a ≡ x → b ≡ y → c ≡ z → unless (a == b - 1 + c) (refusal.FaceCycle a b c) ≡ unless (x == y - 1 + z) (refusal.FaceCycle x y z)
same_counts a b c x y z e f g = rw (e, f, g) refl

counts : (a b c x y z : ℕ) → a ≡ x → b ≡ y + 1 → c ≡ z → unless (a == b - 1 + c) (refusal.FaceCycle a b c) ≡ unless (x == y + z) (refusal.FaceCycle x (y + 1) z)
counts a b c x y z e f g = let h : y + 1 - 1 ≡ y = omega arith in rw (e, f, g, h) refl

module _ (r : RotationRows) (faces : List FaceRow) (numbers : Numbers) (n : NumberedMap) (is : IsNumberedMap r faces numbers n) where
  -- a component is marked exactly where it is reached
  pub component_told : (starts : List ℕ) (reached : List Bool) → ((s : ℕ) → IsTrue (has starts s) → s < length n.face_of.items) → map (ring_at (map_with_faces r faces)) starts ≡ outer_rings (map_with_faces r faces) → ((x : ℕ) → is_marked reached x ≡ has (map (slice_index n.component_of.items) starts) x)
      → (k : ℕ) → k < length n.components.items → is_marked reached (slice_index numbers.of_darts (slice_index n.components.items k)) ≡ is_reached (map_with_faces r faces) (signed_edge r.edges (slice_index n.components.items k))
  component_told starts reached below outer marked k h =
      let m = map_with_faces r faces in
      let g = parts_of (rows_with_faces r faces) is.system in
      let c : ℕ = slice_index n.components.items k in
      let d : ℤ = signed_edge r.edges c in
      let at_k : get_or (components m) k (pos 0) ≡ d = dart_at r.edges n.components.items (components m) is.component_darts.are k h in
      let long = as_many r.edges n.components.items (components m) is.component_darts.are in
      let d_in : has_edge (components m) d ≡ true = subst (λ z. has_edge (components m) z ≡ true) (sym (at_is (components m) k) ∙ at_k) (at_in (components m) k (omega arith)) in
      let d_ring = components-rings m g d d_in in
      let d_signed = rings-signed m d d_ring in
      let i = in_at (rings m) d d_ring in
      let i_lt : i.0 < length (rings m) = i.1 in
      let many = is.numbered.faces_many in
      let rings_long = as_many r.edges n.rings.items (rings m) is.ring_darts.are in
      let lt : i.0 < length n.face_of.items = omega arith in
      let lt' : i.0 < length n.rings.items = omega arith in
      let q : ℕ = slice_index n.rings.items i.0 in
      let own = component_self m d d_signed in
      let q_is : signed_edge r.edges q ≡ d = sym (ring_of_dart r.edges m n.rings.items is.ring_darts.are i.0 lt') ∙ i.2 in
      let same : slice_index numbers.of_darts q ≡ slice_index numbers.of_darts c =
      (is.of_components.same q c (is.ring_darts.within i.0 lt') (is.component_darts.within k h)).1 (subst (λ z. has_edge (component m z) d ≡ true) (sym q_is) own) in
      let number : slice_index n.component_of.items i.0 ≡ slice_index numbers.of_darts c = ap (λ xs. slice_index xs i.0) is.component_numbers ∙ number_is (slice_index numbers.of_darts) n.rings.items i.0 lt' ∙ same in
      let law = reached_of_starts m g (slice_index n.face_ids.items) n.face_of.items n.component_of.items (length n.face_ids.items) is.numbered starts below outer i.0 d lt (subst (λ z. has_edge (component m z) d ≡ true) (sym i.2) own) in
      marked (slice_index numbers.of_darts c)
      ∙ any_of_map (slice_index n.component_of.items) starts (slice_index numbers.of_darts c)
      ∙ ap (λ x. list_any (λ s. slice_index n.component_of.items s == x) starts) (sym number)
      ∙ sym law

  -- a face is marked exactly where it is on a ring
  pub face_told : (on_ring : List Bool) → ((x : ℕ) → is_marked on_ring x ≡ has n.face_of.items x) → (k : ℕ) → k < length n.face_ids.items → is_marked on_ring k ≡ is_on_ring (map_with_faces r faces) (slice_index n.face_ids.items k)
  face_told on_ring marked k h =
      let m = map_with_faces r faces in
      let g = parts_of (rows_with_faces r faces) is.system in
      let ids : List ℕ = n.face_ids.items in
      let f : ℕ = slice_index ids k in
      let many = is.numbered.faces_many in
      marked k
      ∙ same_tests (has n.face_of.items k) (is_on_ring m f)
      (λ on.
      let i = Contains_from_has n.face_of.items k on in
      let lt : i.0 < length n.face_of.items = i.1 in
      let face : slice_index n.face_of.items i.0 ≡ k = get_or_default n.face_of.items i.0 0 k lt ∙ i.2 in
      let its : side m (ring_at m i.0) ≡ f = is.numbered.sides i.0 lt ∙ ap (slice_index ids) face in
      any_from same_edges (λ d. side m d == f) (signed_edges m) (ring_at m i.0) (rings-signed m (ring_at m i.0) (ring_in m i.0 (omega arith))) (eq-eqb (side m (ring_at m i.0)) f its))
      (λ on.
      let d = any_edge (λ d. side m d == f) (signed_edges m) on in
      let name : ℤ = smallest d.0 (ring m d.0) in
      let i = in_at (rings m) name (ring_name-there m g d.0 d.1) in
      let i_lt : i.0 < length (rings m) = i.1 in
      let lt : i.0 < length n.face_of.items = omega arith in
      let its : slice_index ids (slice_index n.face_of.items i.0) ≡ f = sym (is.numbered.sides i.0 lt) ∙ ap (side m) i.2 ∙ ring_side m g d.0 name d.1 (ring_name-on m g d.0 d.1) ∙ eqb-true (side m d.0) f d.2 in
      let face : slice_index n.face_of.items i.0 ≡ k = is.numbered.apart (slice_index n.face_of.items i.0) k (is.below.face i.0 lt) h its in
      subst (λ z. has n.face_of.items z ≡ true) face (has_index n.face_of.items i.0 lt))

  pub count_told : unless (length n.rings.items == length n.face_ids.items - 1 + length n.components.items) (refusal.FaceCycle (length n.rings.items) (length n.face_ids.items) (length n.components.items)) ≡ face_cycle (map_with_faces r faces)
  count_told =
      let m = map_with_faces r faces in
      let a = as_many r.edges n.rings.items (rings m) is.ring_darts.are in
      let b = as_many r.edges n.components.items (components m) is.component_darts.are in
      let c : length n.face_ids.items ≡ length m.faces + 1 = ap length is.face_ids ∙ one_more (length m.faces) in
      counts (length n.rings.items) (length n.face_ids.items) (length n.components.items) (length (rings m)) (length m.faces) (length (components m)) (sym a) c (sym b)

  -- so are the calls' results, whose arguments are views of vectors
  pub unplaced_told : (starts dcomponents found dfound ddarts : List ℕ) (marks dmarks : List Bool) (fault : Option Refusal) → dcomponents ≡ n.component_of.items → found ≡ map (slice_index dcomponents) starts → dfound ≡ found → ((x : ℕ) → is_marked marks x ≡ has dfound x) → ddarts ≡ n.components.items → dmarks ≡ marks
      → ((m : PlaneMap) → map (signed_edge r.edges) ddarts ≡ components m → AreReachedMarked m r.edges (slice_index numbers.of_darts) ddarts dmarks → fault ≡ unplaced m)
      → ((s : ℕ) → IsTrue (has starts s) → s < length n.face_of.items) → map (ring_at (map_with_faces r faces)) starts ≡ outer_rings (map_with_faces r faces) → fault ≡ unplaced (map_with_faces r faces)
  unplaced_told starts dcomponents found dfound ddarts marks dmarks fault ec ef ed marked ek em tells below outer =
      let m = map_with_faces r faces in
      let all : (x : ℕ) → is_marked dmarks x ≡ has (map (slice_index n.component_of.items) starts) x = λ x. ap (λ ms. is_marked ms x) em ∙ marked x ∙ ap (λ xs. has xs x) (ed ∙ ef ∙ ap (λ xs. map (slice_index xs) starts) ec) in
      subst (λ (ds : List ℕ). map (signed_edge r.edges) ds ≡ components m → AreReachedMarked m r.edges (slice_index numbers.of_darts) ds dmarks → fault ≡ unplaced m) ek (tells m) is.component_darts.are (component_told starts dmarks below outer all)

  pub bare_told : (dfaces dids : List ℕ) (marks dmarks : List Bool) (fault : Option Refusal) → dfaces ≡ n.face_of.items → ((x : ℕ) → is_marked marks x ≡ has dfaces x) → dids ≡ n.face_ids.items → dmarks ≡ marks → ((m : PlaneMap) → dids ≡ (0 ∷ m.faces) → AreOnRingMarked m dids dmarks → fault ≡ bare_face m)
      → fault ≡ bare_face (map_with_faces r faces)
  bare_told dfaces dids marks dmarks fault ef marked ei em tells =
      let m = map_with_faces r faces in
      let all : (x : ℕ) → is_marked dmarks x ≡ has n.face_of.items x = λ x. ap (λ ms. is_marked ms x) em ∙ marked x ∙ ap (λ xs. has xs x) ef in
      subst (λ (ids : List ℕ). ids ≡ (0 ∷ m.faces) → AreOnRingMarked m ids dmarks → fault ≡ bare_face m) ei (tells m) is.face_ids (face_told dmarks all)

  pub places_below : (starts dcomponents : List ℕ) → dcomponents ≡ n.component_of.items → ((s : ℕ) → IsTrue (has starts s) → s < length n.face_of.items) → (k : ℕ) → k < length starts → slice_index starts k < length dcomponents
  places_below starts dcomponents e below k h =
      let it = below (slice_index starts k) (has_index starts k h) in
      let same : length dcomponents ≡ length n.face_of.items = ap length e ∙ is.below.same in
      omega arith

  pub numbers_below : (starts dcomponents found dfound : List ℕ) → dcomponents ≡ n.component_of.items → found ≡ map (slice_index dcomponents) starts → dfound ≡ found → ((s : ℕ) → IsTrue (has starts s) → s < length n.face_of.items) → (k : ℕ) → k < length dfound → slice_index dfound k < numbers.count
  numbers_below starts dcomponents found dfound ec ef ed below k h =
      let e : dfound ≡ map (slice_index n.component_of.items) starts = ed ∙ ef ∙ ap (λ xs. map (slice_index xs) starts) ec in
      let long : length dfound ≡ length starts = ap length e ∙ length-map starts (slice_index n.component_of.items) in
      let lt : k < length starts = omega arith in
      let it = below (slice_index starts k) (has_index starts k lt) in
      subst (λ x. x < numbers.count) (sym (ap (λ xs. slice_index xs k) e ∙ number_is (slice_index n.component_of.items) starts k lt)) (is.below.component (slice_index starts k) it)

some_first : (o rest : Option Refusal) → is_some o ≡ true → or_else o rest ≡ o
some_first None rest h = cc
some_first (Some e) rest h = refl

pub none_if : (o : Option Refusal) → is_some o ≡ false → o ≡ None
none_if None h = refl
none_if (Some e) h = cc

-- the first of three faults
pub first_unplaced : (m : PlaneMap) (fault : Option Refusal) → fault ≡ unplaced m → is_some fault ≡ true → fault ≡ placement_fault m
first_unplaced m fault e some = let rest = or_else (bare_face m) (or_else (face_cycle m) None) in sym (some_first fault rest some) ∙ ap (λ o. or_else o rest) e

pub then_bare : (m : PlaneMap) (before fault : Option Refusal) → before ≡ unplaced m → is_some before ≡ false → fault ≡ bare_face m → is_some fault ≡ true → fault ≡ placement_fault m
then_bare m before fault e none f some =
    let rest = or_else (face_cycle m) None in
    sym (some_first fault rest some) ∙ ap (λ o. or_else o rest) f ∙ ap (λ o. or_else o (or_else (bare_face m) rest)) (sym (none_if before none) ∙ e)

pub then_count : (m : PlaneMap) (before between fault : Option Refusal) → before ≡ unplaced m → is_some before ≡ false → between ≡ bare_face m → is_some between ≡ false → fault ≡ face_cycle m → fault ≡ placement_fault m
then_count m before between fault e none f no_bare g =
    let rest = or_else (face_cycle m) None in
    g ∙ sym (or_none (face_cycle m)) ∙ ap (λ o. or_else o rest) (sym (none_if between no_bare) ∙ f) ∙ ap (λ o. or_else o (or_else (bare_face m) rest)) (sym (none_if before none) ∙ e)
