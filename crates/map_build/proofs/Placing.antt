-- What stands in the faces of a walk of consistent tables is what the contents of the map have.
use Rattle.std.specs.Prelude.{ℤ, pos, map, find, nat_eq, nat_le, slice_get, slice_index, unwrap_or, is_some, option_map, if◌then◌else◌, neg_ℤ, None, Some, Option}
use Rattle.std.specs.List.{All, IsDistinct, cons_option, list_all, range_with_len}
use Rattle.std.specs.Option.{option_and_then}
use Rattle.std.proofs.Common.{◌≡◌, ℕ, zero, suc, ◌+◌, ◌*◌, ◌%◌, ◌<◌, ◌⊎◌, ◌==◌, inl, inr, Bool, true, false, List, [], ◌∷◌, length, get_or, refl, ap, sym, ◌∙◌, arith, subst}
use Rattle.std.proofs.lemmas.Bool.{and_parts, and_from, cases_lt, or_cases, or_left, or_right, eqb-true, eq-eqb, lt-ltb, ne_eqb}
use Rattle.std.proofs.lemmas.List.{get_or-map, length-map}
use Rattle.std.proofs.lemmas.List.Sorted.{All-permutation, IsPermutation-map}
use Rattle.std.proofs.lemmas.Map.Keys.{IsDistinct-from_apart}
use Rattle.std.proofs.lemmas.Option.{slice_get-get_or}
use Rattle.orbits.proofs.Lists.{same_tests, in_filter, from_filter}
use Rattle.orbits.proofs.Numbers.{same_numbers, from_range}
use Rattle.topo_base.specs.SignedEdge.{edge_of as edge_id, is_forward, comes_before}
use Rattle.plane_model.specs.declared.rows.NodeRow.{NodeRow}
use Rattle.plane_model.specs.declared.rows.EdgeRow.{EdgeRow}
use Rattle.plane_model.specs.Rows.{Rows}
use Rattle.plane_model.specs.InRange.{is_in_range}
use Rattle.plane_model.specs.Consistent.{is_consistent}
use Rattle.plane_model.specs.Faces.{outer_rings}
use Rattle.plane_model.specs.PlaneMap.{PlaneMap, map_of, side}
use Rattle.plane_model.specs.Rotation.{is_face, is_face_or_none, node_face}
use Rattle.plane_model.specs.Sets.{has, is_distinct}
use Rattle.plane_model.proofs.Lookups.{find_key}
use Rattle.plane_model.proofs.Sorting.{among, rising-has}
use Rattle.rotation_check.specs.Darts.{signed_edge}
use Rattle.rotation_check.proofs.DartLists.{signed_there}
use Rattle.code_laws.specs.Code.{Code}
use Rattle.id_names.specs.Names.{AreDistinctIds}
use Rattle.topo_base.specs.declared.id.TheConstants.{LARGEST_ID}
use Rattle.map_build.specs.DartRows.{row_at, key_of_dart}
use Rattle.map_build.specs.Filled.{place_of_node, isolated_of}
use Rattle.map_build.specs.Made.{walked_at, faces_made, place_of, contents_of_map}
use Rattle.map_build.specs.Placed.{IsKnown, IsKnownOrNone, placed_nodes}
use Rattle.map_build.specs.Standing.{place_in}
use Rattle.map_build.specs.Tours.{IsWalkOf, code_of_tour, edges_of_tour}
use Rattle.map_build.specs.declared.checked.Walked.{Walked}
use Rattle.map_build.specs.declared.standing.Standing.{Standing}
use Rattle.map_build.proofs.DartRows as rows
use Rattle.map_build.proofs.Facts.{AreGood, good, id_positive}
use Rattle.map_build.proofs.FromTour as tours
use Rattle.map_build.proofs.Keys.{few_edges, node_ids_apart}
use Rattle.map_build.proofs.Complete as complete
use Rattle.map_build.proofs.Naming as naming
use Rattle.map_build.proofs.OfMap.{tour_same}
use Rattle.map_build.proofs.PlaceOrder.{edges_one}
use Rattle.map_build.proofs.Shells.{list_has}
use Rattle.map_build.proofs.Shells as shells
use Rattle.map_build.proofs.Standings.{same_members}
use Rattle.std.specs.List.{AllByRecursion}
use Rattle.std.proofs.lemmas.List.Elements.{All-from_recursion}
use Rattle.islands.proofs.Collected.{has_index}
use Rattle.file_laws.proofs.Lists.{index-has}
use Rattle.map_build.specs.Filled.{AreFilled}
use Rattle.map_build.specs.Made.{member_number}
use Rattle.map_build.specs.Placed.{AreRegionsOf, member_region}
use Rattle.region_tree.specs.Parts.{member_places}
use Rattle.region_tree.specs.declared.parts.MemberPlace.{MemberPlace}
use Rattle.region_tree.specs.declared.parts.RegionParts.{RegionParts}
use Rattle.map_build.proofs.MadeRegions as regions
use Rattle.map_build.specs.Named.{AreNamesOf}
use Rattle.map_build.specs.Placed.{ArePlaced, joined_contents}
use Rattle.map_build.specs.declared.names.Names.{Names}
use Rattle.map_build.specs.declared.building.Placed.{Placed}
use Rattle.map_build.proofs.ByNumber.{filled_same}
use Rattle.map_build.proofs.Orders.{same_items}

-- the key of a dart orders signed edges
pub key_before : (edges : List EdgeRow) (d e : ℕ) → 0 < (row_at edges d).id → 0 < (row_at edges e).id → key_of_dart edges d < key_of_dart edges e → comes_before (signed_edge edges d) (signed_edge edges e) ≡ true
key_before edges d e hd he l =
    let a = rows.id_of_signed edges d in
    let b = rows.id_of_signed edges e in
    let f = rows.forward_of_dart edges d hd in
    let g = rows.forward_of_dart edges e he in
    elim (cases_lt (row_at edges d).id (row_at edges e).id) [
      | inl less ↦ or_left _ _ (lt-ltb (edge_id (signed_edge edges d)) (edge_id (signed_edge edges e)) (omega (arith, less, a, b)))
      | inr more ↦
          let same : edge_id (signed_edge edges d) ≡ edge_id (signed_edge edges e) = omega (arith, more, l, a, b) in
          let even : d % 2 ≡ 0 = omega (arith, more, l) in
          let odd : e % 2 ≡ 0 → ⊥ = (λ z. let y : ⊥ = omega (arith, more, l, z) in y) in
          let second : is_forward (signed_edge edges d) ≡ true = f ∙ eq-eqb (d % 2) 0 even in
          let third : is_forward (signed_edge edges e) ≡ false = g ∙ ne_eqb (e % 2) 0 odd in
          or_right _ _ (and_from _ _ (and_from _ _ (eq-eqb (edge_id (signed_edge edges d)) (edge_id (signed_edge edges e)) same) second) (rw third refl))
    ]

-- darts with the same key are of one signed edge
same_key : (edges : List EdgeRow) (d e : ℕ) → key_of_dart edges d ≡ key_of_dart edges e → signed_edge edges d ≡ signed_edge edges e
same_key edges d e h =
    let id : (row_at edges d).id ≡ (row_at edges e).id = omega (arith, h) in
    let parity : d % 2 ≡ e % 2 = omega (arith, h) in
    (λ i. signed (id i) (parity i))
  where
    signed : ℕ → ℕ → ℤ
    signed n p = if p == 0 then pos n else neg_ℤ (pos n)

known_from : (m : PlaneMap) (faces : List ℕ) → ((f : ℕ) → has m.faces f ≡ true → has faces f ≡ true) → (f : ℕ) → is_face m f ≡ true → IsKnown faces f
known_from m faces there f h = elim (or_cases (f == 0) (has m.faces f) h) [ inl z ↦ inl (eqb-true f 0 z) | inr k ↦ inr (there f k) ]

known_or_none : (m : PlaneMap) (faces : List ℕ) → ((f : ℕ) → has m.faces f ≡ true → has faces f ≡ true) → (o : Option ℕ) → is_face_or_none m o ≡ true → IsKnownOrNone faces o
known_or_none m faces there None h = tt
known_or_none m faces there (Some f) h = known_from m faces there f h

-- the face that a row names is that of its node
joined_option : (o : Option ℕ) (r : Option (Option ℕ)) → r ≡ Some o → option_and_then (λ f. f) r ≡ o
joined_option o r e = rw e refl

row_face : (t : Rows) (k : ℕ) (r : NodeRow) → is_distinct (map (λ n. n.id) t.nodes) ≡ true → slice_get t.nodes k ≡ Some r → node_face (map_of t) r.id ≡ r.face
row_face t k r distinct h = joined_option r.face (option_map (λ n. n.face) (find (λ n. n.id == r.id) t.nodes)) (ap (option_map (λ (n : NodeRow). n.face)) (find_key (λ n. n.id) t.nodes k r distinct h))

-- a node that names a face stands there, by its id
module _ (m : PlaneMap) (fs : List ℕ) where
  IsThere : Standing → Type 0
  IsThere s = (s.place ≡ place_of_node m fs s.key) × (is_some (node_face m s.key) ≡ true) × (has m.nodes.keys s.key ≡ true)

  there_step : (r : NodeRow) (o : Option ℕ) (ss : List Standing) → node_face m r.id ≡ o → has m.nodes.keys r.id ≡ true → AllByRecursion IsThere ss
      → AllByRecursion IsThere (cons_option (option_map (λ f. record { place = place_of fs f; key = r.id; component = 0 }) o) ss)
  unfolding IsThere
  there_step r None ss e k all = all
  there_step r (Some f) ss e k all = ((sym (ap (λ o. place_of fs (unwrap_or o 0)) e), ap (λ (o : Option ℕ). is_some o) e, k), all)

  AreNodesOf : List NodeRow → Type 0
  AreNodesOf ns = (k : ℕ) (d : NodeRow) → k < length ns → (node_face m (get_or ns k d).id ≡ (get_or ns k d).face) × (has m.nodes.keys (get_or ns k d).id ≡ true)

  all_there : (ns : List NodeRow) → AreNodesOf ns → AllByRecursion IsThere (placed_nodes fs ns)
  unfolding AreNodesOf
  all_there [] h = tt
  all_there (r ∷ rs) h = let first = h 0 r (omega arith) in there_step r r.face (placed_nodes fs rs) first.0 first.1 (all_there rs (λ k d l. h (suc k) d (omega (arith, l))))

  name_first : (r : NodeRow) (o : Option ℕ) (ss : List Standing) → is_some o ≡ true → has (map (λ s. s.key) (cons_option (option_map (λ f. record { place = place_of fs f; key = r.id; component = 0 }) o) ss)) r.id ≡ true
  name_first r None ss h = cc
  name_first r (Some f) ss h = or_left (r.id == r.id) _ (eq-eqb r.id r.id refl)

  name_later : (r : NodeRow) (o : Option ℕ) (ss : List Standing) (x : ℕ) → has (map (λ s. s.key) ss) x ≡ true → has (map (λ s. s.key) (cons_option (option_map (λ f. record { place = place_of fs f; key = r.id; component = 0 }) o) ss)) x ≡ true
  name_later r None ss x h = h
  name_later r (Some f) ss x h = or_right (x == r.id) _ h

  placed_has : (ns : List NodeRow) (k : ℕ) (d : NodeRow) → k < length ns → is_some (get_or ns k d).face ≡ true → has (map (λ s. s.key) (placed_nodes fs ns)) (get_or ns k d).id ≡ true
  placed_has [] k d l h = absurd (omega (arith, l))
  placed_has (r ∷ rs) zero d l h = name_first r r.face (placed_nodes fs rs) h
  placed_has (r ∷ rs) (suc k) d l h = name_later r r.face (placed_nodes fs rs) (get_or rs k d).id (placed_has rs k d (omega (arith, l)) h)

map_map : {X Y Z : Type 0} (f : Y → Z) (h : X → Y) (xs : List X) → map f (map h xs) ≡ map (λ x. f (h x)) xs
map_map f h [] = refl
map_map f h (x ∷ xs) = let more = map_map f h xs in λ i. f (h x) ∷ more i

module _ (t : Rows) (range : is_in_range t ≡ true) (ok : is_consistent t ≡ true) (w : Walked) (walk : IsWalkOf t w) where
  g : AreGood t
  g = good t range ok

  abbrev m : PlaneMap
  m = map_of t

  abbrev c : Code
  c = code_of_tour w.tour

  abbrev signed : List ℤ
  signed = edges_of_tour t.edges w.tour

  abbrev outer : List ℤ
  outer = outer_rings m

  abbrev starts : List ℕ
  starts = w.placement.starts

  abbrev faces : List ℕ
  faces = faces_made m c signed

  pub faces_are : (contents_of_map m).faces ≡ faces
  faces_are = ap (λ x. x.faces) (tour_same t range ok starts w.tour.darts.items w.tour.tree.items w.tour.first.items w.tour.starts.items walk.starts walk.tour)

  pub face_names : AreDistinctIds (LARGEST_ID + 1) faces
  face_names = complete.face_names t g signed w.tour.tree.items w.tour.first.items w.tour.starts.items (naming.other t range ok w walk) (naming.map_walk t range ok w walk)

  abbrev tree : List Bool
  tree = w.tour.tree.items

  few_faces : length faces < 4294967296
  few_faces =
      let a = shells.faces_len t g signed tree w.tour.first.items w.tour.starts.items (naming.other t range ok w walk) (naming.map_walk t range ok w walk) in
      let b = naming.faces_many t range ok w walk in
      let e = few_edges t g in
      omega (arith, a, b, e)

  pub few_given : (fs : List ℕ) → fs ≡ (contents_of_map m).faces → length fs < 4294967296
  few_given fs e = let a = ap length (e ∙ faces_are) in let b = few_faces in omega (arith, a, b)

  face_there : (f : ℕ) → has m.faces f ≡ true → has faces f ≡ true
  face_there f h = shells.face_there t g signed tree w.tour.first.items w.tour.starts.items (naming.other t range ok w walk) (naming.map_walk t range ok w walk) f h

  known : (f : ℕ) → is_face m f ≡ true → IsKnown faces f
  known f h = known_from m faces face_there f h

  side_known : (k d : ℕ) → k < length (map (side m) outer) → IsKnown faces (get_or (map (side m) outer) k d)
  side_known k d l =
      let n = length-map outer (side m) in
      let inside : k < length outer = omega (arith, l, n) in
      let there = shells.outer_signed t g signed tree w.tour.first.items w.tour.starts.items (naming.other t range ok w walk) (naming.map_walk t range ok w walk) k inside in
      let face = shells.side_face t g signed tree w.tour.first.items w.tour.starts.items (naming.other t range ok w walk) (naming.map_walk t range ok w walk) (walked_at outer k) there in
      subst (IsKnown faces) (sym (get_or-map (side m) outer k (pos 0) d inside)) (known (side m (walked_at outer k)) face)

  pub sides_known : (ks fs : List ℕ) → ks ≡ (contents_of_map m).faces → fs ≡ w.placement.faces → (k d : ℕ) → k < length fs → IsKnown ks (get_or fs k d)
  sides_known ks fs e f =
      let P : List ℕ → List ℕ → Type 0 = λ ks fs. (k d : ℕ) → k < length fs → IsKnown ks (get_or fs k d) in
      subst (λ xs. P xs fs) (sym (e ∙ faces_are)) (subst (λ ys. P faces ys) (sym (f ∙ walk.faces)) side_known)

  pub starts_within : (es : List EdgeRow) (ss : List ℕ) → es ≡ t.edges → ss ≡ starts → (j : ℕ) → j < length ss → slice_index ss j < 2 * length es
  starts_within es ss e f =
      let P : List EdgeRow → List ℕ → Type 0 = λ es ss. (j : ℕ) → j < length ss → slice_index ss j < 2 * length es in
      subst (λ xs. P xs ss) (sym e) (subst (λ ys. P t.edges ys) (sym f) walk.starts.within)

  pub small_ids : (es : List EdgeRow) → es ≡ t.edges → list_all (λ e. nat_le e.id LARGEST_ID) es ≡ true
  small_ids es e = subst (λ xs. list_all (λ e. nat_le e.id LARGEST_ID) xs ≡ true) (sym e) (tours.is_rotation_of t g).largest

  outer_many : length outer ≡ length starts
  outer_many = tours.count t g starts walk.starts.are walk.starts.within

  pub few_places : (ks ps : List ℕ) → ps ≡ map (place_of ks) w.placement.faces → length ps < 4294967296
  few_places ks ps e =
      let a = ap length e ∙ length-map w.placement.faces (place_of ks) ∙ ap length walk.faces ∙ length-map outer (side m) in
      let b = outer_many in
      let n = naming.few_starts t range ok w walk in
      omega (arith, a, b, n)

  start_is : (j : ℕ) → j < length starts → walked_at outer j ≡ signed_edge t.edges (slice_index starts j)
  start_is j l = tours.start_edge t g starts walk.starts.are walk.starts.within j l

  keys_apart : IsDistinct nat_eq (map (key_of_dart t.edges) starts)
  keys_apart =
      let many = length-map starts (key_of_dart t.edges) in
      IsDistinct-from_apart nat_eq (map (key_of_dart t.edges) starts) (λ i j d l k.
      let j_in : j < length starts = omega (arith, k, many) in
      let i_in : i < length starts = omega (arith, l, j_in) in
      let n = outer_many in
      let at = λ (x : ℕ) (h : x < length starts). get_or-map (key_of_dart t.edges) starts x 0 d h in
      ne_eqb (get_or (map (key_of_dart t.edges) starts) i d) (get_or (map (key_of_dart t.edges) starts) j d) (λ e.
      let same = same_key t.edges (slice_index starts i) (slice_index starts j) (sym (at i i_in) ∙ e ∙ at j j_in) in
      let one : i ≡ j = edges_one outer g.placing.apart i j (omega (arith, i_in, n)) (omega (arith, j_in, n)) (start_is i i_in ∙ same ∙ sym (start_is j j_in)) in
      let no_way : ⊥ = omega (arith, one, l) in
      no_way))

  pub starts_apart : (es : List EdgeRow) (ss : List ℕ) → es ≡ t.edges → ss ≡ starts → IsDistinct nat_eq (map (key_of_dart es) ss)
  starts_apart es ss e f = subst (λ xs. IsDistinct nat_eq (map (key_of_dart xs) ss)) (sym e) (subst (λ ys. IsDistinct nat_eq (map (key_of_dart t.edges) ys)) (sym f) keys_apart)

  -- the rows of nodes
  rows_are : (k : ℕ) (d : NodeRow) → k < length t.nodes → (node_face m (get_or t.nodes k d).id ≡ (get_or t.nodes k d).face) × (has m.nodes.keys (get_or t.nodes k d).id ≡ true)
  rows_are k d l =
      let many = length-map t.nodes (λ (n : NodeRow). n.id) in
      let at = get_or-map (λ (n : NodeRow). n.id) t.nodes k d 0 l in (
        row_face t k (get_or t.nodes k d) (node_ids_apart t g) (slice_get-get_or t.nodes k d l),
        rising-has (map (λ n. n.id) t.nodes) (get_or t.nodes k d).id ∙ subst (λ x. has (map (λ n. n.id) t.nodes) x ≡ true) at (has_index (map (λ n. n.id) t.nodes) k (omega (arith, l, many))),
      )

  face_or_none : (n : ℕ) → has m.nodes.keys n ≡ true → is_face_or_none m (node_face m n) ≡ true
  face_or_none n h = let parts = and_parts _ (list_all (λ n. is_face_or_none m (node_face m n)) m.nodes.keys) g.faces in among (λ n. is_face_or_none m (node_face m n)) m.nodes.keys n parts.1 h

  nodes_known_so : (k : ℕ) (d : NodeRow) → k < length t.nodes → IsKnownOrNone faces (get_or t.nodes k d).face
  nodes_known_so k d l =
      let r = rows_are k d l in
      known_or_none m faces face_there (get_or t.nodes k d).face (subst (λ o. is_face_or_none m o ≡ true) r.0 (face_or_none (get_or t.nodes k d).id r.1))

  pub nodes_known : (ks : List ℕ) (ns : List NodeRow) → ks ≡ (contents_of_map m).faces → ns ≡ t.nodes → (k : ℕ) (d : NodeRow) → k < length ns → IsKnownOrNone ks (get_or ns k d).face
  nodes_known ks ns e f =
      let P : List ℕ → List NodeRow → Type 0 = λ ks ns. (k : ℕ) (d : NodeRow) → k < length ns → IsKnownOrNone ks (get_or ns k d).face in
      subst (λ xs. P xs ns) (sym (e ∙ faces_are)) (subst (λ ys. P faces ys) (sym f) nodes_known_so)

  -- the faces of members
  at_member : (ms : List MemberPlace) (k : ℕ) (d : MemberPlace) → ms ≡ member_places m → k < length ms → slice_get (member_places m) k ≡ Some (get_or ms k d)
  at_member ms k d e l = subst (λ ps. slice_get ps k ≡ Some (get_or ms k d)) e (slice_get-get_or ms k d l)

  pub members_known : (ks : List ℕ) (ms : List MemberPlace) → ks ≡ (contents_of_map m).faces → ms ≡ member_places m → (k : ℕ) (d : MemberPlace) → k < length ms → IsKnown ks (get_or ms k d).face
  members_known ks ms e f k d l = subst (λ xs. IsKnown xs (get_or ms k d).face) (sym (e ∙ faces_are)) (known (get_or ms k d).face (regions.member_face t g k (get_or ms k d) (at_member ms k d f l)))

  pub members_few : (ms : List MemberPlace) → ms ≡ member_places m → (k : ℕ) (d : MemberPlace) → k < length ms → (get_or ms k d).region < 16777216
  members_few ms f k d l = regions.member_few t g k (get_or ms k d) (at_member ms k d f l)

  pub members_apart : (ms : List MemberPlace) → ms ≡ member_places m → is_distinct (map (λ (p : MemberPlace). p.face) ms) ≡ true
  members_apart ms f = subst (λ ps. is_distinct (map (λ (p : MemberPlace). p.face) ps) ≡ true) (sym f) (regions.members_apart t g)

  pub member_numbers : (ms : List MemberPlace) (ks : List ℕ) → ms ≡ member_places m → map (member_region ms) (0 ∷ ks) ≡ map (member_number m) (0 ∷ ks)
  member_numbers ms ks f = ap (λ ps. map (member_region ps) (0 ∷ ks)) f ∙ each (0 ∷ ks)
    where
      each : (fs : List ℕ) → map (member_region (member_places m)) fs ≡ map (member_number m) fs
      each [] = refl
      each (x ∷ fs) = let here = regions.member_is t g x in let more = each fs in λ i. here i ∷ more i

  pub node_ids_differ : (ns : List NodeRow) → ns ≡ t.nodes → is_distinct (map (λ n. n.id) ns) ≡ true
  node_ids_differ ns e = subst (λ xs. is_distinct (map (λ n. n.id) xs) ≡ true) (sym e) (node_ids_apart t g)

  module _ (n : Names) (named : AreNamesOf t w n) where
    abbrev fs : List ℕ
    fs = n.faces.items

    faces_same_made : fs ≡ faces
    faces_same_made =
        let other = naming.other t range ok w walk in
        let mw = naming.map_walk t range ok w walk in
        let first = w.tour.first.items in
        let ps = w.tour.starts.items in
        let len = shells.faces_len t g signed tree first ps other mw in
        let k = named.faces_len in
        same_items fs faces 0 (omega (arith, len, k)) (λ r l.
        let p = shells.shell_at t g signed tree first ps other mw r (omega (arith, l, k)) in
        named.faces p.0 r p.2 p.3 ∙ sym (shells.face_of_shell t g signed tree first ps other mw p.0 r p.2 p.3))

    pub faces_same : fs ≡ (contents_of_map m).faces
    faces_same = faces_same_made ∙ sym faces_are

    module _ (p : Placed) (placed : ArePlaced t w fs p) where
      abbrev alone : List Standing
      alone = p.isolated.items

      abbrev names : List ℕ
      names = map (λ s. s.key) alone

      nothing : Standing
      nothing = record { place = 0; key = 0; component = 0 }

      there : All (IsThere m fs) alone
      unfolding AreNodesOf
      there = All-permutation (IsThere m fs) (placed_nodes fs t.nodes) alone placed.isolated (All-from_recursion (IsThere m fs) (placed_nodes fs t.nodes) (all_there m fs t.nodes rows_are))

      at : (f : Standing → ℕ) (i : ℕ) → i < length alone → slice_index (map f alone) i ≡ f (get_or alone i nothing)
      at f i l = get_or-map f alone i nothing 0 l

      names_many : length names ≡ length alone
      names_many = length-map alone (λ (s : Standing). s.key)

      place_at : (i : ℕ) → i < length alone → place_in alone i ≡ place_of_node m fs (slice_index names i)
      unfolding IsThere
      place_at i l = at (λ s. s.place) i l ∙ (there i nothing l).0 ∙ ap (place_of_node m fs) (sym (at (λ s. s.key) i l))

      alone_order : (i : ℕ) → i + 1 < length names
          → (place_of_node m fs (slice_index names i) < place_of_node m fs (slice_index names (i + 1)))
          ⊎ ((place_of_node m fs (slice_index names i) ≡ place_of_node m fs (slice_index names (i + 1))) × (slice_index names i < slice_index names (i + 1)))
      alone_order i l =
          let many = names_many in
          let second : i + 1 < length alone = omega (arith, l, many) in
          let first : i < length alone = omega (arith, second) in
          let a = place_at i first in let b = place_at (i + 1) second in
          elim (placed.isolated_order i second) [
            | inl h ↦ inl (omega (arith, a, b, h))
            | inr h ↦ let e = h.0 in let f = h.1 in inr (omega (arith, a, b, e), f)
          ]

      isolated_same : map (λ s. s.place) alone ≡ map (place_of_node m fs) names
      isolated_same =
          let many = length-map alone (λ (s : Standing). s.place) in
          let names_len = names_many in
          let mapped = length-map names (place_of_node m fs) in
          same_items (map (λ s. s.place) alone) (map (place_of_node m fs) names) 0 (omega (arith, many, mapped, names_len)) (λ i l.
          let inside : i < length alone = omega (arith, l, many) in
          place_at i inside ∙ sym (get_or-map (place_of_node m fs) names i 0 0 (omega (arith, inside, names_len))))

      alone_all : (x : ℕ) → has names x ≡ has (isolated_of m) x
      unfolding IsThere
      alone_all x =
          same_tests (has names x) (has (isolated_of m) x)
          (λ h.
          let i = index-has names x h in
          let many = names_many in
          let inside : i.0 < length alone = omega (arith, i.1, many) in
          let a = there i.0 nothing inside in
          let is : (get_or alone i.0 nothing).key ≡ x = sym (at (λ s. s.key) i.0 inside) ∙ i.2 in
          in_filter same_numbers (λ n. is_some (node_face m n)) m.nodes.keys x (subst (λ y. is_some (node_face m y) ≡ true) is a.1) (subst (λ y. has m.nodes.keys y ≡ true) is a.2))
          (λ h.
          let k = from_filter same_numbers (λ n. is_some (node_face m n)) m.nodes.keys x h in
          let ids = map (λ (n : NodeRow). n.id) t.nodes in
          let i = index-has ids x (sym (rising-has ids x) ∙ k.1) in
          let ids_many = length-map t.nodes (λ (n : NodeRow). n.id) in
          let none : NodeRow = record { id = 0; face = None } in
          let inside : i.0 < length t.nodes = omega (arith, i.1, ids_many) in
          let is : (get_or t.nodes i.0 none).id ≡ x = sym (get_or-map (λ (n : NodeRow). n.id) t.nodes i.0 none 0 inside) ∙ i.2 in
          let face = (rows_are i.0 none inside).0 in
          let names_one : is_some (get_or t.nodes i.0 none).face ≡ true = ap (λ (o : Option ℕ). is_some o) (sym face) ∙ subst (λ y. is_some (node_face m y) ≡ true) (sym is) k.0 in
          let here = placed_has m fs t.nodes i.0 none inside names_one in
          same_members (map (λ s. s.key) (placed_nodes fs t.nodes)) names x (IsPermutation-map (λ s. s.key) (placed_nodes fs t.nodes) alone placed.isolated)
          ∙ subst (λ y. has (map (λ s. s.key) (placed_nodes fs t.nodes)) y ≡ true) is here)

      places_same : p.places.items ≡ map (λ r. place_of fs (side m r)) outer
      places_same = placed.places ∙ ap (map (place_of fs)) walk.faces ∙ map_map (place_of fs) (side m) outer

      places_many : length p.places.items ≡ length outer
      places_many = ap length places_same ∙ length-map outer (λ r. place_of fs (side m r))

      order_all : (j : ℕ) → has p.order.items j ≡ has (range_with_len 0 (length outer)) j
      order_all j = placed.order.all j ∙ ap (λ n. has (range_with_len 0 n) j) places_many

      order_below : (i : ℕ) → i < length p.order.items → slice_index p.order.items i < length starts
      order_below i l =
          let j = slice_index p.order.items i in
          let h : has (range_with_len 0 (length outer)) j ≡ true = sym (order_all j) ∙ has_index p.order.items i l in
          let b = from_range 0 (length outer) j h in
          let n = outer_many in
          omega (arith, b.1, n)

      start_positive : (j : ℕ) → j < length starts → 0 < (row_at t.edges (slice_index starts j)).id
      start_positive j l =
          let h = id_positive t g (signed_edge t.edges (slice_index starts j)) (signed_there t (slice_index starts j) (walk.starts.within j l)) in
          subst (λ n. 0 < n) (rows.id_of_signed t.edges (slice_index starts j)) h

      order : (i : ℕ) → i + 1 < length p.order.items → let j = slice_index p.order.items i in let k = slice_index p.order.items (i + 1) in
          (slice_index p.places.items j < slice_index p.places.items k) ⊎ ((slice_index p.places.items j ≡ slice_index p.places.items k) × (comes_before (walked_at outer j) (walked_at outer k) ≡ true))
      order i l =
          let j = slice_index p.order.items i in
          let k = slice_index p.order.items (i + 1) in
          let j_in = order_below i (omega (arith, l)) in
          let k_in = order_below (i + 1) l in
          let a = get_or-map (key_of_dart t.edges) starts j 0 0 j_in in
          let b = get_or-map (key_of_dart t.edges) starts k 0 0 k_in in
          elim (placed.order.rises i l) [
            | inl h ↦ inl h
            | inr h ↦
                let less = h.1 in
                let before = key_before t.edges (slice_index starts j) (slice_index starts k) (start_positive j j_in) (start_positive k k_in) (omega (arith, less, a, b)) in
                inr (h.0, subst (λ y. comes_before y (walked_at outer k) ≡ true) (sym (start_is j j_in)) (subst (λ z. comes_before (signed_edge t.edges (slice_index starts j)) z ≡ true) (sym (start_is k k_in)) before))
          ]

      filled : (r : RegionParts) → AreRegionsOf t r → AreFilled m c signed (joined_contents w.tour n p r)
      filled r numbered =
          record {
            code = refl;
            edges_len = named.edges_len;
            edges = named.edges;
            forward_len = named.forward_len;
            forward = named.forward;
            faces_len = named.faces_len;
            faces = named.faces;
            joined = n.nodes.items;
            alone = names;
            nodes = refl;
            joined_len = named.nodes_len;
            joined_at = named.nodes;
            alone_all = alone_all;
            alone_order = alone_order;
            isolated = isolated_same;
            places = places_same;
            order_all = order_all;
            order = order;
            regions = numbered.ids;
            region_bits = numbered.bits;
            members = placed.members;
          }

      -- what is joined is the contents of the map
      pub joined_is : (r : RegionParts) → AreRegionsOf t r → joined_contents w.tour n p r ≡ contents_of_map m
      joined_is r numbered =
          filled_same t g signed tree w.tour.first.items w.tour.starts.items (naming.other t range ok w walk) (naming.map_walk t range ok w walk) (joined_contents w.tour n p r) (filled r numbered)
          ∙ sym (tour_same t range ok starts w.tour.darts.items tree w.tour.first.items w.tour.starts.items walk.starts walk.tour)
