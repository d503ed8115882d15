-- How many nodes, edges and rings a component has, by counts of numbers of components.
use Rattle.std.proofs.Common.{◌≡◌, ℕ, zero, suc, ◌*◌, ◌/◌, ◌%◌, ◌<◌, inl, inr, ℤ, pos, Bool, true, false, ◌==◌, List, [], ◌∷◌, map, length, get_or, refl, sym, ap, ◌∙◌, subst, arith, eq-eqb, Option, Some, None}
use Rattle.std.specs.List.{list_any, list_all}
use Rattle.std.proofs.lemmas.Bool.{eqb-true, and_parts, cases_Bool, or_left, or_right, both_ways}
use Rattle.std.proofs.lemmas.List.{length-map}
use Rattle.topo_base.specs.SignedEdge.{same_edge}
use Rattle.orbits.proofs.Lists.{among, in_filter, from_filter, same_tests}
use Rattle.plane_model.specs.declared.rows.NodeRow.{NodeRow}
use Rattle.plane_model.specs.declared.rows.EdgeRow.{EdgeRow}
use Rattle.plane_model.specs.Sets.{has, has_edge}
use Rattle.plane_model.specs.PlaneMap.{PlaneMap, signed_edges, smallest, origin, leaving, ring, round}
use Rattle.plane_model.specs.Rotation.{is_one_orbit, is_whole_node}
use Rattle.plane_model.specs.Component.{component, node_count, edge_count, ring_count}
use Rattle.plane_model.proofs.SetLaws.{same_is, same_self, same_edges}
use Rattle.plane_model.proofs.Sorting as sorting
use Rattle.plane_model.proofs.RotationOrbits.{name_there, ring_parts}
use Rattle.plane_model.proofs.ComponentParts.{component-node, component-round, component-ring}
use Rattle.rotation_check.specs.Darts.{RotationRows, IsRotation, map_of_rotation, signed_edge}
use Rattle.rotation_check.proofs.DartLists.{dart_place, signed_there}
use Rattle.rotation_check.proofs.EndLemmas.{node_id-get}
use Rattle.euler_check.specs.Counts.{AreLabelParts, AreCounted, AreCountsOf, HasNumber, LeavesRow, count_below, is_in}
use Rattle.euler_check.specs.Marks.{number_at}
use Rattle.euler_check.specs.Numbers.{Numbers, ArePartNumbers}
use Rattle.euler_check.proofs.Counted.{rings_passing}
use Rattle.euler_check.proofs.Counting.{count-list, count-same, pass_rising}
use Rattle.euler_check.proofs.Walking.{own_rows}

module _ (r : RotationRows) (is : IsRotation r) (components : Numbers) (are : ArePartNumbers r.edges (component (map_of_rotation r)) components) where
  m : PlaneMap
  m = map_of_rotation r

  -- the component of a dart has another dart exactly where that one has its number
  same_number : (s d : ℕ) → s < 2 * length r.edges → d < 2 * length r.edges → has_edge (component (map_of_rotation r) (signed_edge r.edges s)) (signed_edge r.edges d) ≡ is_in (get_or components.of_darts s 0) (Some (get_or components.of_darts d 0))
  same_number s d h q =
      same_tests (has_edge (component (map_of_rotation r) (signed_edge r.edges s)) (signed_edge r.edges d)) (get_or components.of_darts d 0 == get_or components.of_darts s 0)
      (λ on. eq-eqb _ _ (sym ((are.same s d h q).1 on)))
      (λ e. (are.same s d h q).0 (sym (eqb-true _ _ e)))

  -- edges: the k-th of the ids, and the dart forward
  forward : (k : ℕ) → k < length r.edges → pos (get_or (map (λ e. e.id) r.edges) k 0) ≡ signed_edge r.edges (2 * k)
  forward k h = ids r.edges k h
    where
      ids : (edges : List EdgeRow) (k : ℕ) → k < length edges → pos (get_or (map (λ e. e.id) edges) k 0) ≡ signed_edge edges (2 * k)
      ids [] k h = absurd (omega arith)
      ids (e ∷ edges) zero h = refl
      ids (e ∷ edges) (suc k) h =
          let half : (2 * suc k) / 2 ≡ suc ((2 * k) / 2) = omega arith in
          let even : (2 * suc k) % 2 ≡ (2 * k) % 2 = omega arith in
          rw (half, even) (ids edges k (omega arith))

  pub edges_counted : (counts : List ℕ) → AreCounted components.count (λ i. Some (get_or components.of_darts (2 * i) 0)) (length r.edges) counts → AreCountsOf r edge_count components counts
  edges_counted counts all =
      record {
        size = all.size;
        counted = λ s h.
            let c = component (map_of_rotation r) (signed_edge r.edges s) in
            let l = length-map r.edges (λ (e : EdgeRow). e.id) in
            all.counted (get_or components.of_darts s 0) (are.below s h)
            ∙ sym (pass_rising (λ e. has_edge c (pos e)) (map (λ e. e.id) r.edges) ∙ count-list (λ e. has_edge c (pos e)) (map (λ e. e.id) r.edges) 0
            ∙ ap (λ n. count_below n (λ i. has_edge c (pos (get_or (map (λ e. e.id) r.edges) i 0)))) l
            ∙ count-same (length r.edges) (λ i. has_edge c (pos (get_or (map (λ e. e.id) r.edges) i 0))) (λ i. is_in (get_or components.of_darts s 0) (Some (get_or components.of_darts (2 * i) 0)))
            (λ i q. ap (has_edge c) (forward i q) ∙ same_number s (2 * i) h (omega arith)));
      }

  -- nodes: the component of any dart that leaves a node decides
  none_left : (s : ℤ → Bool) (n : ℕ) → ((d : ℕ) → d < 2 * length r.edges → origin (map_of_rotation r) (signed_edge r.edges d) ≡ n → ⊥) → list_any s (leaving (map_of_rotation r) n) ≡ false
  none_left s n none = by_list (leaving (map_of_rotation r) n) refl
    where
      by_list : (ds : List ℤ) → leaving (map_of_rotation r) n ≡ ds → list_any s ds ≡ false
      by_list [] e = refl
      by_list (d ∷ ds) e =
          let on : has_edge (leaving (map_of_rotation r) n) d ≡ true = subst (λ xs. has_edge xs d ≡ true) (sym e) (or_left _ _ (same_self d)) in
          let passed = from_filter same_edges (λ x. origin (map_of_rotation r) x == n) (signed_edges (map_of_rotation r)) d on in
          let k = dart_place (own_rows r) d passed.1 in
          absurd (none k.0 k.1 (ap (origin (map_of_rotation r)) k.2 ∙ eqb-true _ _ passed.0))

  one_left : (c : ℤ) → has_edge (signed_edges (map_of_rotation r)) c ≡ true → (n : ℕ) → has (map_of_rotation r).nodes.keys n ≡ true → (d : ℕ) → d < 2 * length r.edges → origin (map_of_rotation r) (signed_edge r.edges d) ≡ n
      → list_any (has_edge (component (map_of_rotation r) c)) (leaving (map_of_rotation r) n) ≡ has_edge (component (map_of_rotation r) c) (signed_edge r.edges d)
  one_left c there n n_in d h leaves = by_list (leaving (map_of_rotation r) n) refl
    where
      d_on : has_edge (leaving (map_of_rotation r) n) (signed_edge r.edges d) ≡ true
      d_on = in_filter same_edges (λ x. origin (map_of_rotation r) x == n) (signed_edges (map_of_rotation r)) (signed_edge r.edges d) (eq-eqb _ _ leaves) (signed_there (own_rows r) d h)

      by_list : (ds : List ℤ) → leaving (map_of_rotation r) n ≡ ds → list_any (has_edge (component (map_of_rotation r) c)) (leaving (map_of_rotation r) n) ≡ has_edge (component (map_of_rotation r) c) (signed_edge r.edges d)
      by_list [] e = absurd (both_ways false refl (subst (λ xs. has_edge xs (signed_edge r.edges d) ≡ true) e d_on))
      by_list (x ∷ xs) e =
          let whole = sorting.among (is_whole_node (map_of_rotation r)) (map_of_rotation r).nodes.keys n (and_parts _ (list_all (is_whole_node (map_of_rotation r)) (map_of_rotation r).nodes.keys) is.rotation).1 n_in in
          let one = and_parts (is_one_orbit (map_of_rotation r) (leaving (map_of_rotation r) n)) _ whole in
          let rest : list_all (has_edge (round (map_of_rotation r) x)) xs ≡ true = subst (λ es. is_one_orbit (map_of_rotation r) es ≡ true) e one.0 in
          let x_on : has_edge (leaving (map_of_rotation r) n) x ≡ true = subst (λ es. has_edge es x ≡ true) (sym e) (or_left _ _ (same_self x)) in
          let x_in = (from_filter same_edges (λ y. origin (map_of_rotation r) y == n) (signed_edges (map_of_rotation r)) x x_on).1 in
          let d_in : has_edge (x ∷ xs) (signed_edge r.edges d) ≡ true = subst (λ es. has_edge es (signed_edge r.edges d) ≡ true) e d_on in
          component-node (own_rows r) is.rotation c x xs n there n_in e ∙ elim (cases_Bool (same_edge (signed_edge r.edges d) x)) [
            | inl same ↦ ap (has_edge (component (map_of_rotation r) c)) (sym (same_is (signed_edge r.edges d) x same))
            | inr other ↦
                let on : has_edge xs (signed_edge r.edges d) ≡ true = rw other at d_in in
                sym (component-round (own_rows r) is.rotation c x (signed_edge r.edges d) there x_in (among same_edges (has_edge (round (map_of_rotation r) x)) xs (signed_edge r.edges d) rest on))
          ]

  node_there : (k : ℕ) → k < length r.nodes → has (map_of_rotation r).nodes.keys (get_or (map (λ n. n.id) r.nodes) k 0) ≡ true
  node_there k h =
      let l = length-map r.nodes (λ (n : NodeRow). n.id) in
      sorting.rising-has (map (λ n. n.id) r.nodes) (get_or (map (λ n. n.id) r.nodes) k 0) ∙ at (map (λ n. n.id) r.nodes) k (omega arith)
    where
      at : (xs : List ℕ) (k : ℕ) → k < length xs → has xs (get_or xs k 0) ≡ true
      at [] k h = absurd (omega arith)
      at (x ∷ xs) zero h = or_left _ _ (eq-eqb x x refl)
      at (x ∷ xs) (suc k) h = or_right _ _ (at xs k (omega arith))

  pub nodes_counted : (numbers : List (Option ℕ)) (counts : List ℕ) → AreLabelParts components (LeavesRow r) (length r.nodes) (2 * length r.edges) numbers → AreCounted components.count (number_at numbers) (length numbers) counts → AreCountsOf r node_count components counts
  nodes_counted numbers counts places all =
      record {
        size = all.size;
        counted = λ s h.
            let c = component (map_of_rotation r) (signed_edge r.edges s) in
            let ids = map (λ (n : NodeRow). n.id) r.nodes in
            all.counted (get_or components.of_darts s 0) (are.below s h)
            ∙ ap (λ n. count_below n (λ i. is_in (get_or components.of_darts s 0) (number_at numbers i))) places.size
            ∙ sym (pass_rising (λ n. list_any (has_edge c) (leaving (map_of_rotation r) n)) ids ∙ count-list (λ n. list_any (has_edge c) (leaving (map_of_rotation r) n)) ids 0
            ∙ ap (λ n. count_below n (λ i. list_any (has_edge c) (leaving (map_of_rotation r) (get_or ids i 0)))) (length-map r.nodes (λ (n : NodeRow). n.id))
            ∙ count-same (length r.nodes) (λ i. list_any (has_edge c) (leaving (map_of_rotation r) (get_or ids i 0))) (λ i. is_in (get_or components.of_darts s 0) (number_at numbers i))
            (λ i q. by_place s h i q (number_at numbers i) refl));
      }
    where
      by_place : (s : ℕ) → s < 2 * length r.edges → (i : ℕ) → i < length r.nodes → (o : Option ℕ) → number_at numbers i ≡ o
          → list_any (has_edge (component (map_of_rotation r) (signed_edge r.edges s))) (leaving (map_of_rotation r) (get_or (map (λ (n : NodeRow). n.id) r.nodes) i 0)) ≡ is_in (get_or components.of_darts s 0) (number_at numbers i)
      by_place s h i q None e =
          none_left (has_edge (component (map_of_rotation r) (signed_edge r.edges s))) (get_or (map (λ (n : NodeRow). n.id) r.nodes) i 0)
          (λ d lt leaves. places.none i d q lt e (leaves ∙ sym (node_id-get r.nodes i)))
          ∙ ap (is_in (get_or components.of_darts s 0)) (sym e)
      by_place s h i q (Some part) e =
          let it = places.some i part q e in
          one_left (signed_edge r.edges s) (signed_there (own_rows r) s h) (get_or (map (λ (n : NodeRow). n.id) r.nodes) i 0) (node_there i q) it.0 it.1 (it.2 ∙ node_id-get r.nodes i)
          ∙ same_number s it.0 h it.1 ∙ ap (λ x. is_in (get_or components.of_darts s 0) (Some x)) it.3 ∙ ap (is_in (get_or components.of_darts s 0)) (sym e)

  -- rings: each has a dart, and that one decides
  pub rings_counted_in : (rings : Numbers) → ArePartNumbers r.edges (ring (map_of_rotation r)) rings → (numbers : List (Option ℕ)) (counts : List ℕ) → AreLabelParts components (HasNumber rings) rings.count (2 * length r.edges) numbers
      → AreCounted components.count (number_at numbers) (length numbers) counts → AreCountsOf r ring_count components counts
  rings_counted_in rings_are_of rings_are numbers counts places all =
      record {
        size = all.size;
        counted = λ s h.
            all.counted (get_or components.of_darts s 0) (are.below s h)
            ∙ ap (λ n. count_below n (λ i. is_in (get_or components.of_darts s 0) (number_at numbers i))) places.size
            ∙ sym (rings_passing r is rings_are_of rings_are (has_edge (component (map_of_rotation r) (signed_edge r.edges s))) (λ i. is_in (get_or components.of_darts s 0) (number_at numbers i))
            (λ d q. by_place s h d q (number_at numbers (get_or rings_are_of.of_darts d 0)) refl));
      }
    where
      by_place : (s : ℕ) → s < 2 * length r.edges → (d : ℕ) → d < 2 * length r.edges → (o : Option ℕ) → number_at numbers (get_or rings_are_of.of_darts d 0) ≡ o
          → has_edge (component (map_of_rotation r) (signed_edge r.edges s)) (smallest (signed_edge r.edges d) (ring (map_of_rotation r) (signed_edge r.edges d))) ≡ is_in (get_or components.of_darts s 0) (number_at numbers (get_or rings_are_of.of_darts d 0))
      by_place s h d q None e = absurd (places.none (get_or rings_are_of.of_darts d 0) d (rings_are.below d q) q e refl)
      by_place s h d q (Some part) e =
          let it = places.some (get_or rings_are_of.of_darts d 0) part (rings_are.below d q) e in
          let s_in = signed_there (own_rows r) s h in
          let d_in = signed_there (own_rows r) d q in
          let own = name_there (signed_edges (map_of_rotation r)) (ring (map_of_rotation r)) (ring_parts (own_rows r) is.rotation) (signed_edge r.edges d) d_in in
          component-ring (own_rows r) is.rotation (signed_edge r.edges s) (signed_edge r.edges d) (smallest (signed_edge r.edges d) (ring (map_of_rotation r) (signed_edge r.edges d))) s_in d_in own.1
          ∙ sym (component-ring (own_rows r) is.rotation (signed_edge r.edges s) (signed_edge r.edges d) (signed_edge r.edges it.0) s_in d_in ((rings_are.same d it.0 q it.1).0 (sym it.2)))
          ∙ same_number s it.0 h it.1 ∙ ap (λ x. is_in (get_or components.of_darts s 0) (Some x)) it.3 ∙ ap (is_in (get_or components.of_darts s 0)) (sym e)
