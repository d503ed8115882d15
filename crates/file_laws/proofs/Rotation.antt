-- The tables of whole contents are a rotation system.
use Rattle.std.specs.Prelude.{ℤ, not, map, filter, nat_lt, slice_index, unwrap_or, option_map, option_and_then, is_some, IsNone, if◌then◌else◌}
use Rattle.std.proofs.Common.{◌≡◌, ℕ, ◌-◌, ◌<◌, ◌≤◌, inl, inr, Bool, true, false, List, [], ◌∷◌, length, refl, ap, sym, ◌∙◌, arith, subst, Option, Some, None, ◌==◌}
use Rattle.std.specs.List.{list_all}
use Rattle.std.proofs.lemmas.Bool.{cases_lt, cases_eq, and_from, eqb-true, eq-eqb, ne_eqb, lt-ltb, le-ltb, or_left, or_right}
use Rattle.topo_base.specs.SignedEdge.{edge_of as edge_id}
use Rattle.orbits.proofs.Lists.{in_filter, from_filter, all_from as edges_all}
use Rattle.orbits.proofs.Numbers.{same_numbers}
use Rattle.orbits.proofs.Carried.{names_distinct}
use Rattle.plane_model.specs.declared.rows.NodeRow.{NodeRow}
use Rattle.plane_model.specs.declared.rows.EdgeRow.{EdgeRow}
use Rattle.plane_model.specs.declared.rows.FaceRow.{FaceRow}
use Rattle.plane_model.specs.Sets.{rising, has, has_edge, is_distinct, is_distinct_edges}
use Rattle.plane_model.specs.PlaneMap.{PlaneMap, map_of, signed_edges, origin, side, next as next_edge, leaving, round}
use Rattle.plane_model.specs.Rotation.{is_face, is_face_or_none, node_face, is_one_orbit, has_its_rows, is_whole_node, is_rotation, has_faces, is_rotation_system}
use Rattle.plane_model.specs.Orders.{is_rising_edges}
use Rattle.plane_model.proofs.Sorting.{rising-has, rising-all, rising_strictly, all_from}
use Rattle.plane_model.proofs.SortedEdges as sorted
use Rattle.plane_model.proofs.SetLaws.{same_self, same_edges}
use Rattle.bit_words.specs.Bits.{rank}
use Rattle.bit_words.proofs.Ranks.{rank_both}
use Rattle.bit_words.proofs.Finds.{least-find}
use Rattle.code_laws.specs.Code.{next, step_back, component_of}
use Rattle.code_laws.specs.Numbers.{edge_of, node_of, ring_of, node_count, enclosing_pair, shell_or_outer, first_of_node}
use Rattle.code_laws.specs.declared.ring_number.RingNumber.TheVariants.{Outer, Shell}
use Rattle.code_laws.proofs.Sound.{whole, in_one}
use Rattle.code_laws.proofs.Edges.{closed}
use Rattle.code_laws.proofs.Backs.{step_laws}
use Rattle.code_laws.proofs.Beside.{next_ring}
use Rattle.code_laws.proofs.Numbered.{round_below}
use Rattle.code_laws.proofs.Selects.{node_within, node_none}
use Rattle.id_names.specs.Names.{number_of}
use Rattle.id_names.proofs.NumberLaws.{number_of-at}
use Rattle.file_laws.specs.Contents.{Contents, component_count}
use Rattle.file_laws.specs.MapOfFile.{signed_at, node_at, face_at, face_at_place, place_of_ring, is_forward_at, node_row, edge_row, joined_count, rows_of_contents}
use Rattle.file_laws.specs.Agreement.{Agrees}
use Rattle.file_laws.proofs.Lists.{keys_kept, names_apart, rising_apart, has-index, index-has}
use Rattle.file_laws.proofs.Bridge.{signed-id, e_in, row_found, has-rising}
use Rattle.file_laws.proofs.Agreement.{agrees}
use Rattle.file_laws.proofs.Consistency.{position_of, at_all, leaves_head}
use Rattle.file_laws.proofs.Whole.{WholeParts}
use Rattle.file_laws.proofs.Fits.{components_same, node_in}
use Rattle.file_laws.proofs.Orbits.{round_from}

one_orbit : (m : PlaneMap) (ds : List ℤ) → ((d e : ℤ) → has_edge ds d ≡ true → has_edge ds e ≡ true → has_edge (round m d) e ≡ true) → is_one_orbit m ds ≡ true
one_orbit m [] h = refl
one_orbit m (d ∷ ds) h = edges_all same_edges (has_edge (round m d)) ds (λ e there. h d e (or_left _ _ (same_self d)) (or_right _ _ there))

none_there : (ds : List ℤ) → ((d : ℤ) → has_edge ds d ≡ true → ⊥) → length ds ≡ 0
none_there [] h = refl
none_there (d ∷ ds) h = absurd (h d (or_left _ _ (same_self d)))

some_there : (ds : List ℤ) (d : ℤ) → has_edge ds d ≡ true → 0 < length ds
some_there [] d h = cc
some_there (x ∷ ds) d h = omega arith

-- what ring a position has: the outer ring of its component, or the shell of a face
pub data RingAt (c : Contents) (p : ℕ) : Type 0 where
  IsOuter : (j : ℕ) → j < component_count c → ring_of c.code p ≡ Outer j → component_of c.code p ≡ j → RingAt c p
  IsShell : (s : ℕ) → s < length c.faces → ring_of c.code p ≡ Shell s → enclosing_pair c.code false p ≡ Some s → RingAt c p

module _ (c : Contents) (w : WholeParts c) where
  abbrev m : PlaneMap
  m = map_of (rows_of_contents c)

  abbrev a : Agrees c m
  a = agrees c w.seen

  -- as many pairs of the other kind as faces
  pub shells_many : rank true c.code.dual (length c.code.dual) ≡ length c.faces
  shells_many =
      let s = w.seen.sound.laid.sizes in
      let z = w.sizes in
      let zp = z.positions in
      let zf = z.faces in
      let ct = closed c.code.tree (whole c.code w.seen.sound true) in
      let cd = closed c.code.dual (whole c.code w.seen.sound false) in
      let rt = rank_both c.code.tree (length c.code.tree) (omega arith) in
      let rd = rank_both c.code.dual (length c.code.dual) (omega arith) in
      omega (arith, s, zp, zf, ct, cd, rt, rd)

  ring_at_of : (p : ℕ) → p < length c.code.a → (o : Option ℕ) → enclosing_pair c.code false p ≡ o → RingAt c p
  unfolding ring_of
  ring_at_of p l None e =
      let i = in_one c.code w.seen.sound p l in
      let k = components_same c w in
      IsOuter (component_of c.code p) (omega (arith, i.1.is, i.1.count, k)) (ap (shell_or_outer c.code p) e) refl
  ring_at_of p l (Some s) e =
      let b = round_below c.code w.seen.sound false p s l e in
      let f = shells_many in
      IsShell s (omega (arith, b, f)) (ap (shell_or_outer c.code p) e) e

  pub ring_at : (p : ℕ) → p < length c.code.a → RingAt c p
  ring_at p l = ring_at_of p l (enclosing_pair c.code false p) refl

  -- ids of rows
  node_ids : map (λ (r : NodeRow). r.id) (rows_of_contents c).nodes ≡ rising c.nodes
  node_ids = keys_kept (λ (r : NodeRow). r.id) (λ id. node_row c id (unwrap_or (number_of c.nodes id) 0)) (λ x. refl) (rising c.nodes)

  edge_ids : map (λ (r : EdgeRow). r.id) (rows_of_contents c).edges ≡ rising c.edges
  edge_ids = keys_kept (λ (r : EdgeRow). r.id) (λ id. edge_row c id (unwrap_or (number_of c.edges id) 0)) (λ x. refl) (rising c.edges)

  pub face_ids : map (λ (r : FaceRow). r.id) (rows_of_contents c).faces ≡ rising c.faces
  face_ids = keys_kept (λ (r : FaceRow). r.id) (λ (id : ℕ). record { id = id }) (λ x. refl) (rising c.faces)

  nodes_apart : is_distinct (map (λ (r : NodeRow). r.id) (rows_of_contents c).nodes) ≡ true
  nodes_apart = rw node_ids (rising_apart c.nodes (names_apart c.nodes w.node_names))

  -- the nodes of the map
  pub node_key : (x : ℕ) → x < length c.nodes → has m.nodes.keys (slice_index c.nodes x) ≡ true
  node_key x l = has-rising (slice_index c.nodes x) (map (λ (r : NodeRow). r.id) (rows_of_contents c).nodes) (rw node_ids (has-rising (slice_index c.nodes x) c.nodes (has-index c.nodes x l)))

  pub node_keys_from : (n : ℕ) → has m.nodes.keys n ≡ true → (x : ℕ) × (x < length c.nodes) × (slice_index c.nodes x ≡ n)
  node_keys_from n h =
      let ids = map (λ (r : NodeRow). r.id) (rows_of_contents c).nodes in
      let there : has (rising c.nodes) n ≡ true = subst (λ xs. has xs n ≡ true) node_ids (sym (rising-has ids n) ∙ h) in
      index-has c.nodes n (sym (rising-has c.nodes n) ∙ there)

  pub node_keys_apart : is_distinct m.nodes.keys ≡ true
  node_keys_apart = rising_apart (map (λ (r : NodeRow). r.id) (rows_of_contents c).nodes) nodes_apart

  pub edges_apart : is_distinct (map (λ (r : EdgeRow). r.id) (rows_of_contents c).edges) ≡ true
  edges_apart = rw edge_ids (rising_apart c.edges (names_apart c.edges w.edge_names))

  faces_apart : is_distinct (map (λ (r : FaceRow). r.id) (rows_of_contents c).faces) ≡ true
  faces_apart = rw face_ids (rising_apart c.faces (names_apart c.faces w.face_names))

  pub signed_rise : is_rising_edges (signed_edges m) ≡ true
  signed_rise =
      let ids = map (λ (r : EdgeRow). r.id) (rows_of_contents c).edges in
      sorted.signed_edges_rise m (rising_strictly ids edges_apart)
      (rising-all (nat_lt 0) ids ∙ ap (list_all (nat_lt 0)) edge_ids ∙ rising-all (nat_lt 0) c.edges ∙ all_from (nat_lt 0) c.edges (λ y there.
      let r = index-has c.edges y there in
      let low = (w.edge_names.in_range r.0 r.1).0 in
      lt-ltb 0 y (omega (arith, low, r.2))))

  pub signed_apart : is_distinct_edges (signed_edges m) ≡ true
  signed_apart = sorted.rising_apart (signed_edges m) signed_rise

  -- the row of a node, and of an edge
  node_row_at : (x : ℕ) → x < length c.nodes → m.nodes.at (slice_index c.nodes x) ≡ Some (node_row c (slice_index c.nodes x) x).face
  node_row_at x l =
      let id = slice_index c.nodes x in
      let f = row_found (λ (r : NodeRow). r.id) (λ id. node_row c id (unwrap_or (number_of c.nodes id) 0)) (λ y. refl) (rising c.nodes) id (has-rising id c.nodes (has-index c.nodes x l)) in
      let n = number_of-at c.nodes x id w.node_names.distinct l refl in
      ap (option_map (λ (r : NodeRow). r.face)) f ∙ ap (λ o. Some (node_row c id (unwrap_or o 0)).face) n

  edge_row_there : (e : ℕ) → e < length c.edges → is_some (m.edges.at (slice_index c.edges e)) ≡ true
  edge_row_there e l =
      let id = slice_index c.edges e in
      let f = row_found (λ (r : EdgeRow). r.id) (λ id. edge_row c id (unwrap_or (number_of c.edges id) 0)) (λ y. refl) (rising c.edges) id (has-rising id c.edges (has-index c.edges e l)) in
      ap (λ o. is_some (option_map (λ (r : EdgeRow). r) o)) f

  node_there : (p : ℕ) → p < length c.code.a → is_some (m.nodes.at (origin m (signed_at c p))) ≡ true
  unfolding node_at
  node_there p l = ap (λ n. is_some (m.nodes.at n)) (a.origins p l) ∙ ap is_some (node_row_at (node_of c.code p) (node_in c w p l))

  id_at : (p : ℕ) → edge_id (signed_at c p) ≡ slice_index c.edges (edge_of c.code p)
  unfolding signed_at
  id_at p = signed-id (is_forward_at c p) (slice_index c.edges (edge_of c.code p))

  next_there : (p : ℕ) → p < length c.code.a → is_some (m.edges.at (edge_id (next_edge m (signed_at c p)))) ≡ true
  next_there p l =
      let n = next_ring c.code w.seen.sound p l in
      ap (λ d. is_some (m.edges.at (edge_id d))) (a.nexts p l) ∙ ap (λ x. is_some (m.edges.at x)) (id_at (next c.code p)) ∙ edge_row_there (edge_of c.code (next c.code p)) (e_in c w.seen (next c.code p) n.0)

  rows_there : list_all (has_its_rows m) (signed_edges m) ≡ true
  rows_there = at_all c w.seen (has_its_rows m) (λ p l. and_from _ _ (node_there p l) (next_there p l))

  next_one : (d e : ℤ) → has_edge (signed_edges m) d ≡ true → has_edge (signed_edges m) e ≡ true → next_edge m d ≡ next_edge m e → d ≡ e
  next_one d e h k same =
      let p = position_of c w.seen d h in
      let q = position_of c w.seen e k in
      let np = next_ring c.code w.seen.sound p.0 p.1 in
      let nq = next_ring c.code w.seen.sound q.0 q.1 in
      let moved : signed_at c (next c.code p.0) ≡ signed_at c (next c.code q.0) = sym (a.nexts p.0 p.1) ∙ ap (next_edge m) p.2 ∙ same ∙ ap (next_edge m) (sym q.2) ∙ a.nexts q.0 q.1 in
      let there : next c.code p.0 ≡ next c.code q.0 = a.one _ _ np.0 nq.0 moved in
      let lp = step_laws c.code w.seen.sound false p.0 p.1 in
      let lq = step_laws c.code w.seen.sound false q.0 q.1 in
      let back : p.0 ≡ q.0 = sym lp.back ∙ ap (λ x. step_back c.code false x) there ∙ lq.back in
      sym p.2 ∙ ap (signed_at c) back ∙ q.2

  nexts_apart : is_distinct_edges (map (next_edge m) (signed_edges m)) ≡ true
  nexts_apart = names_distinct same_edges same_edges (next_edge m) (signed_edges m) signed_apart next_one

  -- a signed edge that leaves a node is at a position with the node's number
  leaves_at : (x : ℕ) → x < length c.nodes → (d : ℤ) → has_edge (leaving m (slice_index c.nodes x)) d ≡ true → (p : ℕ) × (p < length c.code.a) × (signed_at c p ≡ d) × (node_of c.code p ≡ x)
  unfolding node_at
  leaves_at x l d h =
      let parts = from_filter same_edges (λ d. origin m d == slice_index c.nodes x) (signed_edges m) d h in
      let p = position_of c w.seen d parts.1 in
      let e : node_at c p.0 ≡ slice_index c.nodes x = sym (a.origins p.0 p.1) ∙ ap (origin m) p.2 ∙ eqb-true _ _ parts.0 in
      (p.0, p.1, p.2, w.node_names.distinct (node_of c.code p.0) x (node_in c w p.0 p.1) l e)

  pub at_leaves : (p : ℕ) → p < length c.code.a → has_edge (leaving m (node_at c p)) (signed_at c p) ≡ true
  at_leaves p l = in_filter same_edges (λ d. origin m d == node_at c p) (signed_edges m) (signed_at c p) (eq-eqb _ _ (a.origins p l)) (a.there p l)

  joined : joined_count c ≡ node_count c.code
  joined = let k = components_same c w in let s = w.sizes.nodes in omega (arith, k, s)

  first_there : (x : ℕ) → x < joined_count c → (o : Option ℕ) → first_of_node c.code x ≡ o → (p : ℕ) × (p < length c.code.a) × (node_of c.code p ≡ x)
  unfolding first_of_node
  first_there x l None e =
      let none = (node_none c.code w.seen.sound x).0 (subst (λ (o : Option ℕ). IsNone o) (sym e) refl) in
      let j = joined in
      absurd (omega (arith, none, l, j))
  first_there x l (Some p) e =
      let least = least-find (λ p. node_of c.code p == x) 0 (length c.code.a) p e in
      (p, omega (arith, least.within), eqb-true _ _ least.passes)

  pub face_of : (x : ℕ) → x < length c.nodes → node_face m (slice_index c.nodes x) ≡ (node_row c (slice_index c.nodes x) x).face
  face_of x l = ap (option_and_then (λ (f : Option ℕ). f)) (node_row_at x l)

  many_leave : (x : ℕ) → x < length c.nodes → (if is_some (node_face m (slice_index c.nodes x)) then length (leaving m (slice_index c.nodes x)) == 0 else nat_lt 0 (length (leaving m (slice_index c.nodes x)))) ≡ true
  unfolding node_at
  many_leave x l =
      elim (cases_lt x (joined_count c)) [
        | inl k ↦
            let p = first_there x k (first_of_node c.code x) refl in
            let there : has_edge (leaving m (slice_index c.nodes x)) (signed_at c p.0) ≡ true = subst (λ y. has_edge (leaving m (slice_index c.nodes y)) (signed_at c p.0) ≡ true) p.2 (at_leaves p.0 p.1) in
            let some = some_there (leaving m (slice_index c.nodes x)) (signed_at c p.0) there in
            let test = lt-ltb x (joined_count c) k in
            rw (face_of x l) (rw test (lt-ltb 0 _ some))
        | inr g ↦
            let test = le-ltb x (joined_count c) g in
            let none = none_there (leaving m (slice_index c.nodes x)) (λ d h.
            let p = leaves_at x l d h in
            let b = node_within c.code w.seen.sound p.0 p.1 in
            let j = joined in
            absurd (omega (arith, b, p.3, j, g))) in
            rw (face_of x l) (rw test (eq-eqb _ 0 none))
      ]

  whole_node : (x : ℕ) → x < length c.nodes → is_whole_node m (slice_index c.nodes x) ≡ true
  whole_node x l =
      and_from _ _
      (one_orbit m (leaving m (slice_index c.nodes x)) (λ d e h k.
      let p = leaves_at x l d h in
      let q = leaves_at x l e k in
      let on = round_from c w p.0 q.0 p.1 q.1 (p.3 ∙ sym q.3) in
      subst (λ z. has_edge (round m z) e ≡ true) p.2 (subst (λ z. has_edge (round m (signed_at c p.0)) z ≡ true) q.2 on)))
      (many_leave x l)

  -- what holds at each number of a node holds of each node
  at_nodes : (test : ℕ → Bool) → ((x : ℕ) → x < length c.nodes → test (slice_index c.nodes x) ≡ true) → list_all test m.nodes.keys ≡ true
  at_nodes test h =
      rising-all test (map (λ (r : NodeRow). r.id) (rows_of_contents c).nodes) ∙ ap (list_all test) node_ids ∙ rising-all test c.nodes ∙ all_from test c.nodes (λ y there.
      let r = index-has c.nodes y there in
      subst (λ z. test z ≡ true) r.2 (h r.0 r.1))

  pub rotation : is_rotation m ≡ true
  rotation = and_from _ _ (and_from _ _ (and_from _ _ rows_there (leaves_head c w.seen)) nexts_apart) (at_nodes (is_whole_node m) whole_node)

  -- faces
  pub face_there : (s : ℕ) → s < length c.faces → has m.faces (slice_index c.faces s) ≡ true
  face_there s l =
      let id = slice_index c.faces s in
      let r = w.face_names.in_range s l in
      let some : not (id == 0) ≡ true = rw (ne_eqb id 0 (λ e. absurd (omega (arith, e, r.0)))) refl in
      rising-has (filter (λ f. not (f == 0)) (map (λ (r : FaceRow). r.id) (rows_of_contents c).faces)) id
      ∙ in_filter same_numbers (λ f. not (f == 0)) (map (λ (r : FaceRow). r.id) (rows_of_contents c).faces) id some (rw face_ids (has-rising id c.faces (has-index c.faces s l)))

  is_face_at : (place : ℕ) → place ≤ length c.faces → is_face m (face_at_place c place) ≡ true
  is_face_at place l =
      elim (cases_eq place 0) [
        | inl e ↦ rw (eq-eqb place 0 e) refl
        | inr n ↦ rw (ne_eqb place 0 n) (or_right _ _ (face_there (place - 1) (omega (arith, l, n))))
      ]

  pub ring_place : (p : ℕ) → p < length c.code.a → place_of_ring c (ring_of c.code p) ≤ length c.faces
  ring_place p l = at (ring_at p l)
    where
      at : RingAt c p → place_of_ring c (ring_of c.code p) ≤ length c.faces
      at (IsOuter j k r e) = rw r (w.placed j k).place
      at (IsShell s k r e) = rw r (omega (arith, k))

  side_there : (p : ℕ) → p < length c.code.a → is_face m (side m (signed_at c p)) ≡ true
  unfolding face_at
  side_there p l = ap (is_face m) (a.sides p l) ∙ is_face_at (place_of_ring c (ring_of c.code p)) (ring_place p l)

  node_face_there : (x : ℕ) → x < length c.nodes → is_face_or_none m (node_face m (slice_index c.nodes x)) ≡ true
  node_face_there x l =
      elim (cases_lt x (joined_count c)) [
        | inl k ↦ let test = lt-ltb x (joined_count c) k in rw (face_of x l) (rw test refl)
        | inr g ↦
            let test = le-ltb x (joined_count c) g in
            let s = w.sizes.nodes in
            rw (face_of x l) (rw test (is_face_at _ (w.isolated (x - joined_count c) (omega (arith, g, l, s)))))
      ]

  faces_there : has_faces m ≡ true
  faces_there = and_from _ _ (at_all c w.seen (λ d. is_face m (side m d)) side_there) (at_nodes (λ n. is_face_or_none m (node_face m n)) node_face_there)

  pub rotation_system : is_rotation_system (rows_of_contents c) ≡ true
  rotation_system = and_from _ _ (and_from _ _ (and_from _ _ (and_from _ _ nodes_apart edges_apart) faces_apart) rotation) faces_there
