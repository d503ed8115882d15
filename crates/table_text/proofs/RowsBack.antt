-- The rows of a map describe the map, are in range where its tables are, and consistent exactly where these are.
use Rattle.std.proofs.Common.{◌≡◌, ℕ, ◌≤◌, Bool, true, false, not, ◌&&◌, ◌==◌, List, [], ◌∷◌, map, filter, length, refl, sym, ap, ◌∙◌, subst, inl, inr, arith}
use Rattle.std.specs.Prelude.{IsPermutation, nat_le}
use Rattle.std.specs.List.{list_all}
use Rattle.std.proofs.lemmas.Bool.{and_parts, and_from, cases_Bool, leb-true, le-leb}
use Rattle.std.proofs.lemmas.List.{length-map}
use Rattle.std.proofs.lemmas.List.Folds.{list_all-map}
use Rattle.std.proofs.lemmas.List.Sorted.{IsPermutation-map}
use Rattle.orbits.proofs.Numbers.{same_numbers}
use Rattle.orbits.proofs.Lists.{apart_kept}
use Rattle.topo_base.specs.declared.refusal.Table.TheVariants as table
use Rattle.plane_model.specs.declared.rows.NodeRow.{NodeRow}
use Rattle.plane_model.specs.declared.rows.EdgeRow.{EdgeRow}
use Rattle.plane_model.specs.declared.rows.FaceRow.{FaceRow}
use Rattle.plane_model.specs.declared.rows.RegionRow.{RegionRow}
use Rattle.plane_model.specs.declared.rows.MemberRow.{MemberRow}
use Rattle.plane_model.specs.Rows.{Rows}
use Rattle.plane_model.specs.Sets.{has, is_distinct, rising}
use Rattle.plane_model.specs.PlaneMap.{PlaneMap, map_of, has_map, Same}
use Rattle.plane_model.specs.Rotation.{is_rotation, has_faces, is_rotation_system, is_face}
use Rattle.plane_model.specs.Regions.{parents, is_region, is_region_or_none, is_region_forest}
use Rattle.plane_model.specs.Component.{is_plane}
use Rattle.plane_model.specs.Faces.{is_labelled, is_placed}
use Rattle.plane_model.specs.Consistent.{is_consistent}
use Rattle.plane_model.specs.Orders.{is_strictly_rising}
use Rattle.plane_model.specs.InRange.{is_in_range, is_id, is_face_id, is_none_or, is_edge_in_range}
use Rattle.plane_model.specs.Reading.{most_rows}
use Rattle.plane_model.proofs.Lookups.{find_key, row_of-forward}
use Rattle.plane_model.proofs.Sorting.{rising-all, rising-permutation, rising_strictly}
use Rattle.table_text.specs.RowsOfMap.{node_of, edge_of, face_of, region_of, member_of, rows_of_map, AreSorted}
use Rattle.table_text.proofs.Rebuilt.{IsBack, rising_twice, rising_apart, length-rising, filter_all, all_filtered, all_pass, fewer_filtered, same_all, apart_again, as_many, same_map_by, sorted_again}

-- in each table no key stands twice
pub record AreDistinct (t : Rows) : Type 0 where
  pub nodes : is_distinct (map (λ r. r.id) t.nodes) ≡ true
  pub edges : is_distinct (map (λ r. r.id) t.edges) ≡ true
  pub faces : is_distinct (map (λ r. r.id) t.faces) ≡ true
  pub regions : is_distinct (map (λ r. r.id) t.regions) ≡ true
  pub members : is_distinct (map (λ r. r.face) t.members) ≡ true

pub distinct_parts : (t : Rows) → has_map t ≡ true → AreDistinct t
distinct_parts t h =
    let four = and_parts (is_distinct (map (λ r. r.id) t.nodes) && is_distinct (map (λ r. r.id) t.edges) && is_distinct (map (λ r. r.id) t.faces) && is_distinct (map (λ r. r.id) t.regions)) (is_distinct (map (λ r. r.face) t.members)) h in
    let three = and_parts (is_distinct (map (λ r. r.id) t.nodes) && is_distinct (map (λ r. r.id) t.edges) && is_distinct (map (λ r. r.id) t.faces)) (is_distinct (map (λ r. r.id) t.regions)) four.0 in
    let two = and_parts (is_distinct (map (λ r. r.id) t.nodes) && is_distinct (map (λ r. r.id) t.edges)) (is_distinct (map (λ r. r.id) t.faces)) three.0 in
    let one = and_parts (is_distinct (map (λ r. r.id) t.nodes)) (is_distinct (map (λ r. r.id) t.edges)) two.0 in
    record { nodes = one.0; edges = one.1; faces = two.1; regions = three.1; members = four.1 }

pub distinct_whole : (t : Rows) → AreDistinct t → has_map t ≡ true
distinct_whole t d = and_from _ _ (and_from _ _ (and_from _ _ (and_from _ _ d.nodes d.edges) d.faces) d.regions) d.members

-- what the map has at the key of a row is the row
module _ (t : Rows) (d : AreDistinct t) where
  nodes_back : IsBack (λ (r : NodeRow). r.id) (node_of (map_of t)) t.nodes
  nodes_back k r h = rw (find_key (λ (x : NodeRow). x.id) t.nodes k r d.nodes h) refl

  edges_back : IsBack (λ (r : EdgeRow). r.id) (edge_of (map_of t)) t.edges
  edges_back k r h = row_of-forward t k r d.edges h

  regions_back : IsBack (λ (r : RegionRow). r.id) (region_of (map_of t)) t.regions
  regions_back k r h = rw (find_key (λ (x : RegionRow). x.id) t.regions k r d.regions h) refl

  members_back : IsBack (λ (r : MemberRow). r.face) (member_of (map_of t)) t.members
  members_back k r h = rw (find_key (λ (x : MemberRow). x.face) t.members k r d.members h) refl

-- face ids other than 0
is_other : ℕ → Bool
is_other f = not (f == 0)

face_ids : (ks : List ℕ) → map (λ (r : FaceRow). r.id) (map face_of ks) ≡ ks
face_ids [] = refl
face_ids (k ∷ ks) = ap (λ rest. k ∷ rest) (face_ids ks)

faces_again : (ids : List ℕ) → rising (filter is_other (map (λ (r : FaceRow). r.id) (map face_of (rising (filter is_other ids))))) ≡ rising (filter is_other ids)
faces_again ids =
    ap (λ ks. rising (filter is_other ks)) (face_ids (rising (filter is_other ids)))
    ∙ ap rising (filter_all is_other (rising (filter is_other ids)) (rising-all is_other (filter is_other ids) ∙ all_pass is_other ids))
    ∙ rising_twice (filter is_other ids)

pub same_map : (t : Rows) → AreDistinct t → map_of (rows_of_map (map_of t)) ≡ map_of t
unfolding is_other
same_map t d = λ i.
    record {
      nodes = same_map_by (λ (r : NodeRow). r.id) (node_of (map_of t)) t.nodes (nodes_back t d) (λ r. r.face) i;
      edges = same_map_by (λ (r : EdgeRow). r.id) (edge_of (map_of t)) t.edges (edges_back t d) (λ r. r) i;
      faces = faces_again (map (λ r. r.id) t.faces) i;
      regions = same_map_by (λ (r : RegionRow). r.id) (region_of (map_of t)) t.regions (regions_back t d) (λ r. r.parent) i;
      members = same_map_by (λ (r : MemberRow). r.face) (member_of (map_of t)) t.members (members_back t d) (λ r. r.region) i;
    }

pub distinct_again : (t : Rows) → AreDistinct t → AreDistinct (rows_of_map (map_of t))
unfolding is_other
distinct_again t d =
    let ids : List ℕ = map (λ (r : FaceRow). r.id) t.faces in
    record {
      nodes = apart_again (λ (r : NodeRow). r.id) (node_of (map_of t)) t.nodes (nodes_back t d) d.nodes;
      edges = apart_again (λ (r : EdgeRow). r.id) (edge_of (map_of t)) t.edges (edges_back t d) d.edges;
      faces = ap is_distinct (face_ids (rising (filter is_other ids))) ∙ rising_apart (filter is_other ids) (apart_kept same_numbers is_other ids d.faces);
      regions = apart_again (λ (r : RegionRow). r.id) (region_of (map_of t)) t.regions (regions_back t d) d.regions;
      members = apart_again (λ (r : MemberRow). r.face) (member_of (map_of t)) t.members (members_back t d) d.members;
    }

pub rows_same : (t : Rows) → has_map t ≡ true → Same (rows_of_map (map_of t)) t
rows_same t h = let d = distinct_parts t h in (distinct_whole (rows_of_map (map_of t)) (distinct_again t d), h, same_map t d)

pub nodes_sorted : (t : Rows) → AreDistinct t → AreSorted (λ r. r.id) t.nodes (rows_of_map (map_of t)).nodes
nodes_sorted t d = sorted_again (λ (r : NodeRow). r.id) (node_of (map_of t)) t.nodes (nodes_back t d) d.nodes

pub edges_sorted : (t : Rows) → AreDistinct t → AreSorted (λ r. r.id) t.edges (rows_of_map (map_of t)).edges
edges_sorted t d = sorted_again (λ (r : EdgeRow). r.id) (edge_of (map_of t)) t.edges (edges_back t d) d.edges

pub regions_sorted : (t : Rows) → AreDistinct t → AreSorted (λ r. r.id) t.regions (rows_of_map (map_of t)).regions
regions_sorted t d = sorted_again (λ (r : RegionRow). r.id) (region_of (map_of t)) t.regions (regions_back t d) d.regions

pub members_sorted : (t : Rows) → AreDistinct t → AreSorted (λ r. r.face) t.members (rows_of_map (map_of t)).members
members_sorted t d = sorted_again (λ (r : MemberRow). r.face) (member_of (map_of t)) t.members (members_back t d) d.members

-- the rows of faces other than 0, by their ids
other_faces : (faces : List FaceRow) → map face_of (filter is_other (map (λ (r : FaceRow). r.id) faces)) ≡ filter (λ (r : FaceRow). is_other r.id) faces
other_faces [] = refl
other_faces (f ∷ faces) = elim (cases_Bool (is_other f.id)) [ inl e ↦ rw e (ap (λ rest. f ∷ rest) (other_faces faces)) | inr e ↦ rw e (other_faces faces) ]

pub faces_sorted : (t : Rows) → AreDistinct t → AreSorted (λ r. r.id) (filter (λ r. not (r.id == 0)) t.faces) (rows_of_map (map_of t)).faces
unfolding is_other
faces_sorted t d =
    let ids : List ℕ = map (λ (r : FaceRow). r.id) t.faces in
    record {
      permutation = subst (λ rs. IsPermutation rs (map face_of (rising (filter is_other ids)))) (other_faces t.faces)
          (IsPermutation-map face_of (filter is_other ids) (rising (filter is_other ids)) (rising-permutation (filter is_other ids)));
      rising = ap is_strictly_rising (face_ids (rising (filter is_other ids))) ∙ rising_strictly (filter is_other ids) (apart_kept same_numbers is_other ids d.faces);
    }

-- numbers in range, and few enough rows
pub record AreWithin (t : Rows) : Type 0 where
  pub nodes : list_all (λ r. is_id r.id && is_none_or is_face_id r.face) t.nodes ≡ true
  pub edges : list_all is_edge_in_range t.edges ≡ true
  pub faces : list_all (λ r. is_face_id r.id) t.faces ≡ true
  pub regions : list_all (λ r. is_id r.id && is_none_or is_id r.parent) t.regions ≡ true
  pub members : list_all (λ r. is_id r.region && is_face_id r.face) t.members ≡ true
  pub node_count : length t.nodes ≤ most_rows table.Node
  pub edge_count : length t.edges ≤ most_rows table.Edge
  pub face_count : length t.faces ≤ most_rows table.Face
  pub region_count : length t.regions ≤ most_rows table.Region
  pub member_count : length t.members ≤ most_rows table.Member

ten : (a b c d e f g h i j : Bool) → (a && b && c && d && e && f && g && h && i && j) ≡ true
    → (a ≡ true) × (b ≡ true) × (c ≡ true) × (d ≡ true) × (e ≡ true) × (f ≡ true) × (g ≡ true) × (h ≡ true) × (i ≡ true) × (j ≡ true)
ten a b c d e f g h i j all =
    let p9 = and_parts (a && b && c && d && e && f && g && h && i) j all in
    let p8 = and_parts (a && b && c && d && e && f && g && h) i p9.0 in
    let p7 = and_parts (a && b && c && d && e && f && g) h p8.0 in
    let p6 = and_parts (a && b && c && d && e && f) g p7.0 in
    let p5 = and_parts (a && b && c && d && e) f p6.0 in
    let p4 = and_parts (a && b && c && d) e p5.0 in
    let p3 = and_parts (a && b && c) d p4.0 in
    let p2 = and_parts (a && b) c p3.0 in
    let p1 = and_parts a b p2.0 in
    (p1.0, p1.1, p2.1, p3.1, p4.1, p5.1, p6.1, p7.1, p8.1, p9.1)

all_of_ten : (a b c d e f g h i j : Bool) → a ≡ true → b ≡ true → c ≡ true → d ≡ true → e ≡ true → f ≡ true → g ≡ true → h ≡ true → i ≡ true → j ≡ true
    → (a && b && c && d && e && f && g && h && i && j) ≡ true
all_of_ten a b c d e f g h i j ea eb ec ed ee ef eg eh ei ej = rw (ea, eb, ec, ed, ee, ef, eg, eh, ei, ej) refl

pub within_parts : (t : Rows) → is_in_range t ≡ true → AreWithin t
within_parts t h =
    let p =
    ten
    (list_all (λ r. is_id r.id && is_none_or is_face_id r.face) t.nodes) (list_all is_edge_in_range t.edges) (list_all (λ r. is_face_id r.id) t.faces)
    (list_all (λ r. is_id r.id && is_none_or is_id r.parent) t.regions) (list_all (λ r. is_id r.region && is_face_id r.face) t.members)
    (nat_le (length t.nodes) (most_rows table.Node)) (nat_le (length t.edges) (most_rows table.Edge)) (nat_le (length t.faces) (most_rows table.Face))
    (nat_le (length t.regions) (most_rows table.Region)) (nat_le (length t.members) (most_rows table.Member))
    h in
    record {
      nodes = p.0;
      edges = p.1;
      faces = p.2;
      regions = p.3;
      members = p.4;
      node_count = leb-true (length t.nodes) (most_rows table.Node) p.5;
      edge_count = leb-true (length t.edges) (most_rows table.Edge) p.6;
      face_count = leb-true (length t.faces) (most_rows table.Face) p.7;
      region_count = leb-true (length t.regions) (most_rows table.Region) p.8;
      member_count = leb-true (length t.members) (most_rows table.Member) p.9;
    }

pub within_whole : (t : Rows) → AreWithin t → is_in_range t ≡ true
within_whole t w =
    all_of_ten _ _ _ _ _ _ _ _ _ _ w.nodes w.edges w.faces w.regions w.members
    (le-leb (length t.nodes) (most_rows table.Node) w.node_count)
    (le-leb (length t.edges) (most_rows table.Edge) w.edge_count)
    (le-leb (length t.faces) (most_rows table.Face) w.face_count)
    (le-leb (length t.regions) (most_rows table.Region) w.region_count)
    (le-leb (length t.members) (most_rows table.Member) w.member_count)

faces_within : (faces : List FaceRow) → list_all (λ r. is_face_id r.id) faces ≡ true → list_all (λ r. is_face_id r.id) (map face_of (rising (filter is_other (map (λ r. r.id) faces)))) ≡ true
faces_within faces h =
    let ids : List ℕ = map (λ (r : FaceRow). r.id) faces in
    list_all-map (λ (r : FaceRow). is_face_id r.id) face_of (rising (filter is_other ids))
    ∙ rising-all is_face_id (filter is_other ids)
    ∙ all_filtered is_face_id is_other ids (list_all-map is_face_id (λ (r : FaceRow). r.id) faces ∙ h)

face_rows_few : (faces : List FaceRow) → length (map face_of (rising (filter is_other (map (λ r. r.id) faces)))) ≤ length faces
face_rows_few faces =
    let ids : List ℕ = map (λ (r : FaceRow). r.id) faces in
    let a = length-map (rising (filter is_other ids)) face_of in
    let b = length-rising (filter is_other ids) in
    let c = fewer_filtered is_other ids in
    let d = length-map faces (λ (r : FaceRow). r.id) in
    omega arith

-- as many rows, and no more faces
pub record RowCounts (t u : Rows) : Type 0 where
  pub nodes : length u.nodes ≡ length t.nodes
  pub edges : length u.edges ≡ length t.edges
  pub faces : length u.faces ≤ length t.faces
  pub regions : length u.regions ≡ length t.regions
  pub members : length u.members ≡ length t.members

pub row_counts : (t : Rows) → AreDistinct t → RowCounts t (rows_of_map (map_of t))
unfolding is_other
row_counts t d =
    record {
      nodes = as_many (λ (r : NodeRow). r.id) (node_of (map_of t)) t.nodes (nodes_back t d);
      edges = as_many (λ (r : EdgeRow). r.id) (edge_of (map_of t)) t.edges (edges_back t d);
      faces = face_rows_few t.faces;
      regions = as_many (λ (r : RegionRow). r.id) (region_of (map_of t)) t.regions (regions_back t d);
      members = as_many (λ (r : MemberRow). r.face) (member_of (map_of t)) t.members (members_back t d);
    }

pub within_again : (t : Rows) → AreDistinct t → AreWithin t → AreWithin (rows_of_map (map_of t))
unfolding is_other
within_again t d w =
    let n = row_counts t d in
    record {
      nodes = same_all (λ (r : NodeRow). r.id) (node_of (map_of t)) t.nodes (nodes_back t d) (λ r. is_id r.id && is_none_or is_face_id r.face) ∙ w.nodes;
      edges = same_all (λ (r : EdgeRow). r.id) (edge_of (map_of t)) t.edges (edges_back t d) is_edge_in_range ∙ w.edges;
      faces = faces_within t.faces w.faces;
      regions = same_all (λ (r : RegionRow). r.id) (region_of (map_of t)) t.regions (regions_back t d) (λ r. is_id r.id && is_none_or is_id r.parent) ∙ w.regions;
      members = same_all (λ (r : MemberRow). r.face) (member_of (map_of t)) t.members (members_back t d) (λ r. is_id r.region && is_face_id r.face) ∙ w.members;
      node_count = omega (arith, n.nodes, w.node_count);
      edge_count = omega (arith, n.edges, w.edge_count);
      face_count = omega (arith, n.faces, w.face_count);
      region_count = omega (arith, n.regions, w.region_count);
      member_count = omega (arith, n.members, w.member_count);
    }

pub in_range_again : (t : Rows) → is_in_range t ≡ true → has_map t ≡ true → is_in_range (rows_of_map (map_of t)) ≡ true
in_range_again t range h = within_whole (rows_of_map (map_of t)) (within_again t (distinct_parts t h) (within_parts t range))

-- what is asked of the rows of regions and members, where none stands twice
forest_in : PlaneMap → List RegionRow → List MemberRow → Bool
forest_in m regions members =
    list_all (λ (r : RegionRow). is_region_or_none m r.parent) regions && list_all (λ (r : RegionRow). not (has (parents m r.id) r.id)) regions
    && list_all (λ (x : MemberRow). is_region m x.region && is_face m x.face) members

and_true : (a : Bool) → (a && true) ≡ a
and_true true = refl
and_true false = refl

forest_is : (t : Rows) → AreDistinct t → is_region_forest t ≡ forest_in (map_of t) t.regions t.members
unfolding forest_in
forest_is t d = rw (d.regions, d.members) (and_true _)

rotation_in : PlaneMap → Bool
rotation_in m = is_rotation m && has_faces m

rotation_is : (t : Rows) → AreDistinct t → is_rotation_system t ≡ rotation_in (map_of t)
unfolding rotation_in
rotation_is t d = rw (d.nodes, d.edges, d.faces) refl

forest_again : (t : Rows) → AreDistinct t → (m : PlaneMap) → forest_in m (rows_of_map (map_of t)).regions (rows_of_map (map_of t)).members ≡ forest_in m t.regions t.members
unfolding forest_in
forest_again t d m =
    let a = same_all (λ (r : RegionRow). r.id) (region_of (map_of t)) t.regions (regions_back t d) (λ r. is_region_or_none m r.parent) in
    let b = same_all (λ (r : RegionRow). r.id) (region_of (map_of t)) t.regions (regions_back t d) (λ r. not (has (parents m r.id) r.id)) in
    let c = same_all (λ (r : MemberRow). r.face) (member_of (map_of t)) t.members (members_back t d) (λ x. is_region m x.region && is_face m x.face) in
    λ i. (a i && b i) && c i

-- consistent, said of a map and the rows of its regions and members
consistent_in : PlaneMap → List RegionRow → List MemberRow → Bool
consistent_in m regions members = rotation_in m && is_labelled m && is_plane m && is_placed m && forest_in m regions members

consistent_is : (t : Rows) → AreDistinct t → is_consistent t ≡ consistent_in (map_of t) t.regions t.members
unfolding consistent_in
consistent_is t d = let a = rotation_is t d in let b = forest_is t d in λ i. a i && is_labelled (map_of t) && is_plane (map_of t) && is_placed (map_of t) && b i

rows_consistent : (t : Rows) → AreDistinct t → consistent_in (map_of t) (rows_of_map (map_of t)).regions (rows_of_map (map_of t)).members ≡ consistent_in (map_of t) t.regions t.members
unfolding consistent_in
rows_consistent t d = ap (λ b. rotation_in (map_of t) && is_labelled (map_of t) && is_plane (map_of t) && is_placed (map_of t) && b) (forest_again t d (map_of t))

pub consistent_again : (t : Rows) → has_map t ≡ true → is_consistent (rows_of_map (map_of t)) ≡ is_consistent t
consistent_again t h =
    let d = distinct_parts t h in
    let u = rows_of_map (map_of t) in
    consistent_is u (distinct_again t d) ∙ ap (λ m. consistent_in m u.regions u.members) (same_map t d) ∙ rows_consistent t d ∙ sym (consistent_is t d)

-- consistent tables have a map
pub consistent_distinct : (t : Rows) → is_consistent t ≡ true → has_map t ≡ true
consistent_distinct t h =
    let placed = and_parts (is_rotation_system t && is_labelled (map_of t) && is_plane (map_of t) && is_placed (map_of t)) (is_region_forest t) h in
    let plane = and_parts (is_rotation_system t && is_labelled (map_of t) && is_plane (map_of t)) (is_placed (map_of t)) placed.0 in
    let labelled = and_parts (is_rotation_system t && is_labelled (map_of t)) (is_plane (map_of t)) plane.0 in
    let rotation = and_parts (is_rotation_system t) (is_labelled (map_of t)) labelled.0 in
    let ids = first_three (is_distinct (map (λ r. r.id) t.nodes)) (is_distinct (map (λ r. r.id) t.edges)) (is_distinct (map (λ r. r.id) t.faces)) (is_rotation (map_of t)) (has_faces (map_of t)) rotation.0 in
    let ends = ends_of_five (is_distinct (map (λ r. r.id) t.regions)) _ _ _ (is_distinct (map (λ r. r.face) t.members)) placed.1 in
    distinct_whole t (record { nodes = ids.0; edges = ids.1; faces = ids.2; regions = ends.0; members = ends.1 })
  where
    first_three : (a b c d e : Bool) → (a && b && c && d && e) ≡ true → (a ≡ true) × (b ≡ true) × (c ≡ true)
    first_three a b c d e all =
        let four = and_parts (a && b && c && d) e all in
        let three = and_parts (a && b && c) d four.0 in
        let two = and_parts (a && b) c three.0 in
        let one = and_parts a b two.0 in
        (one.0, one.1, two.1)

    ends_of_five : (a b c d e : Bool) → (a && b && c && d && e) ≡ true → (a ≡ true) × (e ≡ true)
    ends_of_five a b c d e all =
        let four = and_parts (a && b && c && d) e all in
        let three = and_parts (a && b && c) d four.0 in
        let two = and_parts (a && b) c three.0 in
        let one = and_parts a b two.0 in
        (one.0, four.1)
