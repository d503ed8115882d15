-- The nodes, edges and rings of a component by its walk: nodes − edges + rings is 2 exactly where the pairs of places
-- nest.
use Rattle.std.proofs.Common.{◌≡◌, ℕ, suc, ◌+◌, ◌-◌, ◌*◌, ◌/◌, ◌<◌, ◌≤◌, ◌⊎◌, ◌↔◌, inl, inr, ℤ, pos, negsuc, Bool, true, not, ◌&&◌, ◌==◌, List, ◌∷◌, map, filter, length, get_or, refl, sym, ap, ◌∙◌, subst, arith, eq-eqb}
use Rattle.std.specs.List.{list_any}
use Rattle.std.proofs.lemmas.Bool.{and_parts, and_from, or_left, or_right, cases_Bool, cases_eq, eqb-true}
use Rattle.std.proofs.lemmas.List.{length-map}
use Rattle.topo_base.specs.SignedEdge.{edge_of, reverse, same_edge}
use Rattle.orbits.specs.Walks.{stepped}
use Rattle.orbits.specs.Renaming.{Carries}
use Rattle.orbits.proofs.Reached.{on_orbit}
use Rattle.orbits.proofs.Lists.{in_filter, from_filter, apart_kept, same_length, any_from, some_that}
use Rattle.orbits.proofs.Numbers.{same_numbers, has_place}
use Rattle.orbits.proofs.Carried.{steps_carried, named_in, name_in, names_distinct}
use Rattle.orbits.proofs.Orbits.{orbit_own, orbit_step}
use Rattle.plane_model.specs.declared.rows.EdgeRow.{EdgeRow}
use Rattle.plane_model.specs.Sets.{has, has_edge, is_distinct}
use Rattle.plane_model.specs.PlaneMap.{PlaneMap, signed_edges, next, origin, leaving, ring, rings, smallest}
use Rattle.plane_model.specs.Component.{node_count, edge_count, ring_count}
use Rattle.plane_model.proofs.RotationOrbits.{edge_of-reverse, signed_apart, next_permutes, ring_named, ring_parts, named, name_there}
use Rattle.plane_model.proofs.SetLaws.{same_is, same_edges}
use Rattle.plane_model.proofs.SortedEdges.{signed-has}
use Rattle.plane_model.proofs.Sorting.{rising-has, rising_strictly}
use Rattle.rotation_check.specs.Darts.{RotationRows, IsRotation, map_of_rotation, signed_edge}
use Rattle.rotation_check.proofs.DartLists.{signed_there}
use Rattle.rotation_check.proofs.EndLemmas.{one_place, edge_id-get}
use Rattle.cycle_pairs.specs.Pairs.{Nests, after_mate, colours, Meet}
use Rattle.cycle_pairs.proofs.Laws.{nests_exactly, colours_orbits}
use Rattle.cycle_pairs.proofs.Orbits.{after_permuted}
use Rattle.cycle_pairs.proofs.Values.{values_few, values_many}
use Rattle.spanning_pair.specs.Darts.{reverse_dart, InComponent}
use Rattle.orbits.specs.Components.InComponent.{itself, reversed}
use Rattle.spanning_pair.specs.Rotations.{place_of, dart_of, next_dart, node_row}
use Rattle.spanning_pair.specs.Walks.{IsTreeWalk}
use Rattle.spanning_pair.proofs.Components.{component_below}
use Rattle.spanning_pair.proofs.Listing.{listed, from_listed, in_listed, listed_apart, pairs_and_listed, strictly_apart}
use Rattle.spanning_pair.proofs.OtherDart.{half_cases}
use Rattle.spanning_pair.proofs.RotationDarts.{own_rows, place_there, dart_there, one_dart, next_signed, node_there, numbered_system, same_origin, signed-reverse}
use Rattle.spanning_pair.proofs.WalkPairs.{mate_of, pairing, steps_on, begins_pair, first_place, one_first, same_place}

pub positive : (d : ℤ) → (pos (edge_of d) ≡ d) ⊎ (pos (edge_of d) ≡ reverse d)
positive (pos n) = inl refl
positive (negsuc n) = inr refl

module _ (r : RotationRows) (is : IsRotation r) (start : ℕ) (start_below : start < 2 * length r.edges)
    (dart : ℕ → ℕ) (tree first : ℕ → Bool) (a b : ℕ) (w : IsTreeWalk (next_dart r) (node_row r) start dart tree first a b)
    (ds : List ℤ) (into : (d : ℕ) → InComponent (next_dart r) start d → has_edge ds (signed_edge r.edges d) ≡ true)
    (from : (d : ℕ) → d < 2 * length r.edges → has_edge ds (signed_edge r.edges d) ≡ true → InComponent (next_dart r) start d) where
  abbrev m : PlaneMap
  m = map_of_rotation r

  abbrev mate : ℕ → ℕ
  mate = mate_of (next_dart r) (node_row r) start dart tree first a b w

  -- the dart of a place
  abbrev at : ℕ → ℕ
  at i = dart (a + i)

  inside : (p : ℕ) → a ≤ p → p < b → InComponent (next_dart r) start (dart p)
  inside p la h = (w.members (dart p)).1 (p, la, h, refl)

  below : (d : ℕ) → InComponent (next_dart r) start d → d < 2 * length r.edges
  below d c = component_below (length r.edges) (next_dart r) (node_row r) (numbered_system r is).rotation start d start_below c

  at_below : (i : ℕ) → i < b - a → at i < 2 * length r.edges
  at_below i l = below (at i) (inside (a + i) (omega arith) (omega arith))

  at_there : (i : ℕ) → i < b - a → has_edge (signed_edges m) (signed_edge r.edges (at i)) ≡ true
  at_there i l = signed_there (own_rows r) (at i) (at_below i l)

  -- edges
  abbrev edge_id : ℕ → ℕ
  edge_id d = edge_of (signed_edge r.edges d)

  edge_id-reverse : (d : ℕ) → edge_id (reverse_dart d) ≡ edge_id d
  edge_id-reverse d = ap edge_of (signed-reverse r is d) ∙ edge_of-reverse (signed_edge r.edges d)

  one_edge : (d e : ℕ) → d < 2 * length r.edges → e < 2 * length r.edges → edge_id d ≡ edge_id e → (e ≡ d) ⊎ (e ≡ reverse_dart d)
  one_edge d e h k same =
      let l = length-map r.edges (λ (e : EdgeRow). e.id) in
      half_cases d e (one_place (map (λ e. e.id) r.edges) is.edges (d / 2) (e / 2) (omega arith) (omega arith) (sym (edge_id-get r.edges d h) ∙ same ∙ edge_id-get r.edges e k))

  abbrev new_edges : List ℕ
  new_edges = listed (λ i. first (a + i)) (λ i. edge_id (at i)) (b - a)

  edges_apart : is_distinct new_edges ≡ true
  edges_apart = listed_apart (λ i. first (a + i)) (λ i. edge_id (at i)) (b - a) (λ i j il jl fi fj e.
      let s : a + i ≡ a + j = one_first (next_dart r) (node_row r) start dart tree first a b w (a + i) (a + j) (omega arith) (omega arith) (omega arith) (omega arith) fi fj
      (one_edge (at i) (at j) (at_below i il) (at_below j jl) e) in omega arith)

  abbrev own_edges : List ℕ
  own_edges = filter (λ e. has_edge ds (pos e)) m.edges.keys

  edge_in : (d : ℕ) → InComponent (next_dart r) start d → has own_edges (edge_id d) ≡ true
  edge_in d c =
      in_filter same_numbers (λ e. has_edge ds (pos e)) m.edges.keys (edge_id d)
      (elim (positive (signed_edge r.edges d)) [
        | inl e ↦ rw e (into d c)
        | inr e ↦ rw e (subst (λ z. has_edge ds z ≡ true) (signed-reverse r is d) (into (reverse_dart d) (reversed d c)))
      ])
      (sym (signed-has m (signed_edge r.edges d)) ∙ signed_there (own_rows r) d (below d c))

  edge_from : (x : ℕ) → has own_edges x ≡ true → has new_edges x ≡ true
  edge_from x h =
      let passed = from_filter same_numbers (λ e. has_edge ds (pos e)) m.edges.keys x h in
      let k = dart_there r is (pos x) (signed-has m (pos x) ∙ passed.1) in
      let c = from (dart_of r.edges (pos x)) k.0 (subst (λ z. has_edge ds z ≡ true) (sym k.1) passed.0) in
      let p = (w.members (dart_of r.edges (pos x))).0 c in
      let q = first_place (next_dart r) (node_row r) start dart tree first a b w p.0 p.1 p.2 in
      let l1 : a ≤ q.0 = q.1 in
      let l2 : q.0 < b = q.2 in
      let e : a + (q.0 - a) ≡ q.0 = omega arith in
      let same : edge_id (dart q.0) ≡ x =
      elim q.4 [ inl s ↦ ap edge_id (sym s) | inr s ↦ sym (edge_id-reverse (dart q.0)) ∙ ap edge_id (sym s) ] ∙ ap edge_id p.3 ∙ ap edge_of k.1 in
      subst (λ z. has new_edges z ≡ true) (ap (λ i. edge_id (dart i)) e ∙ same)
      (in_listed (λ i. first (a + i)) (λ i. edge_id (at i)) (b - a) (q.0 - a) (omega arith) (ap first e ∙ q.3))

  edges_counted : length new_edges ≡ edge_count m ds
  edges_counted =
      same_length same_numbers new_edges own_edges edges_apart
      (apart_kept same_numbers (λ e. has_edge ds (pos e)) m.edges.keys (strictly_apart m.edges.keys (rising_strictly (map (λ e. e.id) r.edges) is.edges)))
      (λ x h.
      let i = from_listed (λ i. first (a + i)) (λ i. edge_id (at i)) (b - a) x h in
      let l : i.0 < b - a = i.1 in
      subst (λ z. has own_edges z ≡ true) i.3 (edge_in (at i.0) (inside (a + i.0) (omega arith) (omega arith))))
      edge_from

  -- nodes
  abbrev node_of : ℕ → ℕ
  node_of d = origin m (signed_edge r.edges d)

  one_row : (d e : ℕ) → node_of d ≡ node_of e → node_row r d ≡ node_row r e
  unfolding node_row
  one_row d e same = ap (place_of (map (λ n. n.id) r.nodes)) same

  abbrev is_reached : ℕ → Bool
  is_reached i = tree (a + i) && first (a + i)

  abbrev heads : List ℕ
  heads = listed is_reached (λ i. node_of (reverse_dart (at i))) (b - a)

  heads_apart : is_distinct (node_of start ∷ heads) ≡ true
  heads_apart =
      and_from (not (has heads (node_of start))) (is_distinct heads)
      (elim (cases_Bool (has heads (node_of start))) [
        | inl there ↦
            let i = from_listed is_reached (λ i. node_of (reverse_dart (at i))) (b - a) (node_of start) there in
            let l : i.0 < b - a = i.1 in
            let parts = and_parts (tree (a + i.0)) (first (a + i.0)) i.2 in
            absurd (w.never_root (a + i.0) (omega arith) (omega arith) parts.0 parts.1 (one_row (reverse_dart (at i.0)) start i.3))
        | inr none ↦ rw none refl
      ])
      (listed_apart is_reached (λ i. node_of (reverse_dart (at i))) (b - a) (λ i j il jl pi pj e.
      let ti = and_parts (tree (a + i)) (first (a + i)) pi in
      let tj = and_parts (tree (a + j)) (first (a + j)) pj in
      let s : a + i ≡ a + j = w.reaches_once (a + i) (a + j) (omega arith) (omega arith) (omega arith) (omega arith) ti.0 ti.1 tj.0 tj.1 (one_row (reverse_dart (at i)) (reverse_dart (at j)) e) in
      omega arith))

  abbrev own_nodes : List ℕ
  own_nodes = filter (λ n. list_any (has_edge ds) (leaving m n)) m.nodes.keys

  node_in : (d : ℕ) → InComponent (next_dart r) start d → has own_nodes (node_of d) ≡ true
  node_in d c =
      in_filter same_numbers (λ n. list_any (has_edge ds) (leaving m n)) m.nodes.keys (node_of d)
      (any_from same_edges (has_edge ds) (leaving m (node_of d)) (signed_edge r.edges d)
      (in_filter same_edges (λ x. origin m x == node_of d) (signed_edges m) (signed_edge r.edges d) (eq-eqb (node_of d) (node_of d) refl) (signed_there (own_rows r) d (below d c)))
      (into d c))
      (rising-has (map (λ n. n.id) r.nodes) (node_of d) ∙ node_there r is d (below d c))

  node_from : (x : ℕ) → has own_nodes x ≡ true → has (node_of start ∷ heads) x ≡ true
  node_from x h =
      let passed = from_filter same_numbers (λ n. list_any (has_edge ds) (leaving m n)) m.nodes.keys x h in
      let d = some_that same_edges (has_edge ds) (leaving m x) passed.0 in
      let leaves = from_filter same_edges (λ y. origin m y == x) (signed_edges m) d.0 d.1 in
      let k = dart_there r is d.0 leaves.1 in
      let c = from (dart_of r.edges d.0) k.0 (subst (λ z. has_edge ds z ≡ true) (sym k.1) d.2) in
      let its : node_of (dart_of r.edges d.0) ≡ x = ap (origin m) k.1 ∙ eqb-true (origin m d.0) x leaves.0 in
      elim (cases_eq (node_row r (dart_of r.edges d.0)) (node_row r start)) [
        | inl root ↦ or_left _ _ (eq-eqb x (node_of start) (sym its ∙ same_origin r is (dart_of r.edges d.0) start k.0 start_below root))
        | inr other ↦
            let p = w.reaches (dart_of r.edges d.0) c other in
            let l1 : a ≤ p.0 = p.1 in
            let l2 : p.0 < b = p.2 in
            let e : a + (p.0 - a) ≡ p.0 = omega arith in
            let back = reversed (dart p.0) (inside p.0 p.1 p.2) in
            or_right _ _ (subst (λ z. has heads z ≡ true)
            (ap (λ i. node_of (reverse_dart (dart i))) e ∙ same_origin r is (reverse_dart (dart p.0)) (dart_of r.edges d.0) (below (reverse_dart (dart p.0)) back) k.0 p.5 ∙ its)
            (in_listed is_reached (λ i. node_of (reverse_dart (at i))) (b - a) (p.0 - a) (omega arith) (and_from (tree (a + (p.0 - a))) (first (a + (p.0 - a))) (ap tree e ∙ p.3) (ap first e ∙ p.4))))
      ]

  nodes_counted : suc (length heads) ≡ node_count m ds
  nodes_counted =
      same_length same_numbers (node_of start ∷ heads) own_nodes heads_apart
      (apart_kept same_numbers (λ n. list_any (has_edge ds) (leaving m n)) m.nodes.keys (strictly_apart m.nodes.keys (rising_strictly (map (λ n. n.id) r.nodes) is.nodes)))
      (λ x h. elim (cases_Bool (x == node_of start)) [
        | inl e ↦ subst (λ z. has own_nodes z ≡ true) (sym (eqb-true x (node_of start) e)) (node_in start itself)
        | inr e ↦
            let more : has heads x ≡ true = rw e at h in
            let i = from_listed is_reached (λ i. node_of (reverse_dart (at i))) (b - a) x more in
            let l : i.0 < b - a = i.1 in
            subst (λ z. has own_nodes z ≡ true) i.3 (node_in (reverse_dart (at i.0)) (reversed (at i.0) (inside (a + i.0) (omega arith) (omega arith))))
      ])
      node_from

  -- rings: the colour of a place is the dart of the smallest signed edge of its dart's ring
  abbrev least : ℤ → ℤ
  least d = smallest d (ring m d)

  abbrev colour : ℕ → ℕ
  colour i = dart_of r.edges (least (signed_edge r.edges (at i)))

  abbrev step : ℕ → ℕ
  step = after_mate (b - a) mate

  step_within : (i : ℕ) → i < b - a → step i < b - a
  step_within i l = (after_permuted (b - a) mate (pairing (next_dart r) (node_row r) start dart tree first a b w)).stays i l

  step_signed : (i : ℕ) → i < b - a → signed_edge r.edges (at (step i)) ≡ next m (signed_edge r.edges (at i))
  step_signed i l = ap (signed_edge r.edges) (steps_on (next_dart r) (node_row r) start dart tree first a b w i l) ∙ (next_signed r is (at i) (at_below i l)).1

  colour_kept : (i : ℕ) → i < b - a → colour (step i) ≡ colour i
  colour_kept i l =
      let d = signed_edge r.edges (at i) in
      let there = at_there i l in
      let on = orbit_step same_edges (signed_edges m) (next m) (next_permutes (own_rows r) is.rotation) d d there (orbit_own same_edges (signed_edges m) (next m) d there) in
      ap (λ x. dart_of r.edges (least x)) (step_signed i l) ∙ ap (dart_of r.edges) ((ring_named (own_rows r) is.rotation).same d (next m d) there on)

  -- from the place of a signed edge the steps lead to each of its ring
  step_carried : Carries (λ i. i < b - a) (λ i. signed_edge r.edges (at i)) step (next m)
  step_carried = record { stays = step_within; same = step_signed }

  on_ring : (i : ℕ) → i < b - a → (e : ℤ) → has_edge (ring m (signed_edge r.edges (at i))) e ≡ true → (j : ℕ) × (j < b - a) × Meet step i j × (signed_edge r.edges (at j) ≡ e)
  on_ring i l e on =
      let k = (on_orbit same_edges (signed_edges m) (next m) (next_permutes (own_rows r) is.rotation) (signed_edge r.edges (at i)) e (at_there i l)).0 on in
      let s = steps_carried (λ i. i < b - a) (λ i. signed_edge r.edges (at i)) step (next m) step_carried k.0 i l in
      (stepped step k.0 i, s.0, (k.0, 0, refl), s.1 ∙ k.1)

  least_there : (i : ℕ) → i < b - a → (has_edge (rings m) (least (signed_edge r.edges (at i))) ≡ true) × (has_edge (ring m (signed_edge r.edges (at i))) (least (signed_edge r.edges (at i))) ≡ true)
  unfolding named
  least_there i l = name_there (signed_edges m) (ring m) (ring_parts (own_rows r) is.rotation) (signed_edge r.edges (at i)) (at_there i l)

  ring_signed : (d : ℤ) → has_edge (rings m) d ≡ true → (same_edge d (least d) ≡ true) × (has_edge (signed_edges m) d ≡ true)
  ring_signed d h = from_filter same_edges (λ d. same_edge d (smallest d (ring m d))) (signed_edges m) d h

  colour_apart : (i j : ℕ) → i < b - a → j < b - a → colour i ≡ colour j → Meet step i j
  colour_apart i j il jl e =
      let di = signed_edge r.edges (at i) in
      let dj = signed_edge r.edges (at j) in
      let same : least dj ≡ least di =
      sym (dart_there r is (least dj) (ring_signed (least dj) (least_there j jl).0).1).1 ∙ ap (signed_edge r.edges) (sym e) ∙ (dart_there r is (least di) (ring_signed (least di) (least_there i il).0).1).1 in
      let on = (ring_named (own_rows r) is.rotation).apart di dj (at_there i il) (at_there j jl) same in
      let there = on_ring i il dj on in
      let at_j = one_dart r is (at there.0) (at j) (at_below there.0 there.1) (at_below j jl) there.3 in
      subst (Meet step i) (same_place (next_dart r) (node_row r) start dart tree first a b w there.0 j there.1 jl at_j) there.2

  abbrev own_rings : List ℤ
  own_rings = filter (has_edge ds) (rings m)

  ring_colours : List ℕ
  ring_colours = map (dart_of r.edges) own_rings

  ring_facts : (d : ℤ) → has_edge own_rings d ≡ true → (has_edge ds d ≡ true) × (d ≡ least d) × (has_edge (signed_edges m) d ≡ true)
  ring_facts d h =
      let passed = from_filter same_edges (has_edge ds) (rings m) d h in
      let its = ring_signed d passed.1 in
      (passed.0, same_is d (least d) its.0, its.1)

  rings_apart : is_distinct ring_colours ≡ true
  unfolding ring_colours
  rings_apart =
      names_distinct same_edges same_numbers (dart_of r.edges) own_rings
      (apart_kept same_edges (has_edge ds) (rings m) (apart_kept same_edges (λ d. same_edge d (smallest d (ring m d))) (signed_edges m) (signed_apart m is.rotation)))
      (λ d e d_in e_in same. sym (dart_there r is d (ring_facts d d_in).2).1 ∙ ap (signed_edge r.edges) same ∙ (dart_there r is e (ring_facts e e_in).2).1)

  shown : (x : ℕ) → has ring_colours x ≡ true → (i : ℕ) × (i < b - a) × (colour i ≡ x)
  unfolding ring_colours
  shown x h =
      let d = named_in same_edges same_numbers (dart_of r.edges) own_rings x h in
      let facts = ring_facts d.0 d.1 in
      let k = dart_there r is d.0 facts.2 in
      let c = from (dart_of r.edges d.0) k.0 (subst (λ z. has_edge ds z ≡ true) (sym k.1) facts.0) in
      let p = (w.members (dart_of r.edges d.0)).0 c in
      let l1 : a ≤ p.0 = p.1 in
      let l2 : p.0 < b = p.2 in
      let e : a + (p.0 - a) ≡ p.0 = omega arith in
      (p.0 - a, omega arith, ap (λ i. dart_of r.edges (least (signed_edge r.edges i))) (ap dart e ∙ p.3) ∙ ap (λ z. dart_of r.edges (least z)) k.1 ∙ ap (dart_of r.edges) (sym facts.1) ∙ d.2)

  colour_in : (i : ℕ) → i < b - a → has ring_colours (colour i) ≡ true
  unfolding ring_colours
  colour_in i l =
      let d = signed_edge r.edges (at i) in
      let found = least_there i l in
      let j = on_ring i l (least d) found.1 in
      let jl : j.0 < b - a = j.1 in
      let inside_it = subst (λ z. has_edge ds z ≡ true) j.3 (into (at j.0) (inside (a + j.0) (omega arith) (omega arith))) in
      name_in same_edges same_numbers (dart_of r.edges) own_rings (least d) (in_filter same_edges (has_edge ds) (rings m) (least d) inside_it found.0)

  rings_counted : colours colour (b - a) ≡ ring_count m ds
  unfolding ring_colours
  rings_counted =
      let few = values_few colour (b - a) ring_colours (λ k l. shown (get_or ring_colours k 0) (has_place ring_colours k l))
      (λ j k jk kl e. (let same : j ≡ k = one_place ring_colours rings_apart j k (omega arith) kl e in omega arith)) in
      let many = values_many colour (b - a) ring_colours (λ i l. (let p = place_there ring_colours (colour i) (colour_in i l) in (place_of ring_colours (colour i), p.0, p.1))) in
      let same = length-map own_rings (dart_of r.edges) in
      omega (arith, few, many, same)

  pub nests_where_plane : Nests (b - a) mate ↔ (node_count m ds + ring_count m ds ≡ edge_count m ds + 2)
  nests_where_plane =
      let p = pairing (next_dart r) (node_row r) start dart tree first a b w in
      let some : 0 < b - a = (let l = w.some in omega arith) in
      let exactly = nests_exactly (b - a) mate p some in
      let each = colours_orbits (b - a) step colour (after_permuted (b - a) mate p) colour_kept colour_apart in
      let count = pairs_and_listed mate (λ i. tree (a + i)) (λ i. first (a + i)) (λ i. node_of (reverse_dart (at i))) (λ i. edge_id (at i)) (b - a)
      (begins_pair (next_dart r) (node_row r) start dart tree first a b w) in
      let edges = edges_counted in
      let nodes = nodes_counted in
      let rings_are = rings_counted in (
        λ nested. (let o = exactly.0 nested in omega (arith, o, each, count, edges, nodes, rings_are)),
        λ e. exactly.1 (omega (arith, e, each, count, edges, nodes, rings_are)),
      )
