-- The darts of a rotation are a numbered system, and what is read of one is its next and its node.
use Rattle.std.proofs.Common.{◌≡◌, ℕ, zero, suc, ◌*◌, ◌/◌, ◌%◌, ◌<◌, inl, inr, ℤ, Bool, true, ◌==◌, List, [], ◌∷◌, map, length, get_or, refl, sym, ap, ◌∙◌, subst, arith, eq-eqb}
use Rattle.std.specs.Prelude.{find, IsTrue, is_some, option_map}
use Rattle.std.specs.List.{list_all}
use Rattle.std.proofs.lemmas.Bool.{and_parts, cases_Bool, cases_eq, eqb-true, ne_eqb, or_cases, or_left, or_right, both_ways}
use Rattle.std.proofs.lemmas.List.{length-map}
use Rattle.topo_base.specs.SignedEdge.{edge_of, is_forward, reverse, same_edge}
use Rattle.orbits.specs.Renaming.{Renames, Carries}
use Rattle.orbits.proofs.Carried.{meets_listed}
use Rattle.orbits.proofs.Lists.{in_filter, from_filter, among}
use Rattle.orbits.proofs.Orbits.{orbit_own, orbit_same}
use Rattle.plane_model.specs.declared.rows.EdgeRow.{EdgeRow}
use Rattle.plane_model.specs.declared.rows.NodeRow.{NodeRow}
use Rattle.plane_model.specs.Rows.{Rows}
use Rattle.plane_model.specs.Sets.{has, has_edge, is_distinct, is_distinct_edges}
use Rattle.plane_model.specs.PlaneMap.{PlaneMap, map_of, signed_edges, next, turn, origin, head, leaving, round}
use Rattle.plane_model.specs.Rotation.{has_its_rows, is_one_orbit, is_whole_node, is_rotation}
use Rattle.plane_model.specs.Orders.{Permutes}
use Rattle.plane_model.proofs.RotationOrbits.{next_permutes, turn_permutes}
use Rattle.plane_model.proofs.SetLaws.{same_is, same_self, same_edges}
use Rattle.plane_model.proofs.Sorting as sorting
use Rattle.rotation_check.specs.Darts.{RotationRows, IsRotation, map_of_rotation, node_id, signed_edge}
use Rattle.rotation_check.proofs.DartLists.{dart_place, signed_there}
use Rattle.rotation_check.proofs.EndLemmas.{one_place, node_id-get, edge_id-get, forward_even}
use Rattle.rotation_check.proofs.Turning.{signed-reverse_dart}
use Rattle.spanning_pair.specs.Darts.{reverse_dart, turned}
use Rattle.spanning_pair.specs.Darts as darts
use Rattle.spanning_pair.specs.Rotations.{place_of, dart_of, next_dart, node_row}
use Rattle.spanning_pair.specs.Tours.{IsNumberedSystem}
use Rattle.spanning_pair.proofs.OtherDart.{reverse_below, same_reverse}

-- places in a list without repetition
pub place_at : (xs : List ℕ) → is_distinct xs ≡ true → (i : ℕ) → i < length xs → place_of xs (get_or xs i 0) ≡ i
unfolding place_of
place_at [] distinct i h = absurd (omega arith)
place_at (x ∷ xs) distinct zero h = rw (eq-eqb x x refl) refl
place_at (x ∷ xs) distinct (suc i) h =
    let other : get_or xs i 0 ≡ x → ⊥ = λ e. absurd (let z = one_place (x ∷ xs) distinct 0 (suc i) (omega arith) h (sym e) in omega arith) in
    rw (ne_eqb (get_or xs i 0) x other) (ap suc (place_at xs (and_parts _ (is_distinct xs) distinct).1 i (omega arith)))

pub place_there : (xs : List ℕ) (x : ℕ) → has xs x ≡ true → (place_of xs x < length xs) × (get_or xs (place_of xs x) 0 ≡ x)
unfolding place_of
place_there [] x h = absurd (both_ways _ refl h)
place_there (y ∷ ys) x h = elim (cases_eq x y) [
  | inl e ↦ rw (eq-eqb x y e) (omega arith, sym e)
  | inr ne ↦
      let more = place_there ys x (elim (or_cases (x == y) (has ys x) h) [ inl e ↦ absurd (ne (eqb-true x y e)) | inr m ↦ m ]) in
      rw (ne_eqb x y ne) ((let lt = more.0 in omega arith), more.1)
]

dart_is : (edges : List EdgeRow) (d : ℤ) (dart : ℕ) → place_of (map (λ e. e.id) edges) (edge_of d) ≡ dart / 2 → is_forward d ≡ (dart % 2 == 0) → dart_of edges d ≡ dart
unfolding dart_of
dart_is edges d dart half way = elim (cases_eq (dart % 2) 0) [
  | inl e ↦ rw (way, half, eq-eqb (dart % 2) 0 e) (omega arith)
  | inr ne ↦ rw (way, half, ne_eqb (dart % 2) 0 ne) (omega arith)
]

pub reverse_signed : (edges : List EdgeRow) (k : ℕ) → signed_edge edges (reverse_dart k) ≡ reverse (signed_edge edges k)
reverse_signed edges k = ap (signed_edge edges) (same_reverse k) ∙ signed-reverse_dart edges k

-- a node that is found is among the ids
found_has : (nodes : List NodeRow) (x : ℕ) → is_some (option_map (λ n. n.face) (find (λ n. n.id == x) nodes)) ≡ true → has (map (λ n. n.id) nodes) x ≡ true
found_has [] x h = absurd (both_ways _ refl h)
found_has (n ∷ nodes) x h = elim (cases_Bool (n.id == x)) [
  | inl e ↦ or_left _ _ (eq-eqb x n.id (sym (eqb-true n.id x e)))
  | inr e ↦ or_right _ _ (found_has nodes x (rw e at h))
]

-- all signed edges of one orbit are on the round of each of them
on_round : (m : PlaneMap) → Permutes (signed_edges m) (turn m) → (ds : List ℤ) → is_one_orbit m ds ≡ true → ((x : ℤ) → has_edge ds x ≡ true → has_edge (signed_edges m) x ≡ true)
    → (a b : ℤ) → has_edge ds a ≡ true → has_edge ds b ≡ true → has_edge (round m a) b ≡ true
on_round m permutes [] one inside a b h k = absurd (both_ways _ refl h)
on_round m permutes (d ∷ ds) one inside a b h k =
    let there = inside d (or_left _ _ (same_self d)) in
    let on : (x : ℤ) → has_edge (d ∷ ds) x ≡ true → has_edge (round m d) x ≡ true = λ x q. elim (or_cases (same_edge x d) (has_edge ds x) q) [
      | inl is ↦ subst (λ y. has_edge (round m d) y ≡ true) (sym (same_is x d is)) (orbit_own same_edges (signed_edges m) (turn m) d there)
      | inr more ↦ among same_edges (has_edge (round m d)) ds x one more
    ] in
    orbit_same same_edges (signed_edges m) (turn m) permutes d a there (on a h) b ∙ on b k

abbrev pub own_rows : RotationRows → Rows
own_rows r = record { nodes = r.nodes; edges = r.edges; faces = []; regions = []; members = [] }

-- the parts of a rotation's test
record Tests (m : PlaneMap) : Type 0 where
  pub rows : list_all (has_its_rows m) (signed_edges m) ≡ true
  pub ends : list_all (λ d. origin m (next m d) == head m d) (signed_edges m) ≡ true
  pub nodes : list_all (is_whole_node m) m.nodes.keys ≡ true

tests : (m : PlaneMap) → is_rotation m ≡ true → Tests m
tests m h =
    let w = and_parts _ (list_all (is_whole_node m) m.nodes.keys) h in
    let x = and_parts _ (is_distinct_edges (map (next m) (signed_edges m))) w.0 in
    let y = and_parts (list_all (has_its_rows m) (signed_edges m)) (list_all (λ d. origin m (next m d) == head m d) (signed_edges m)) x.0 in
    record { rows = y.0; ends = y.1; nodes = w.1 }

module _ (r : RotationRows) (is : IsRotation r) where
  -- a dart is that of its signed edge
  pub dart_of-signed : (k : ℕ) → k < 2 * length r.edges → dart_of r.edges (signed_edge r.edges k) ≡ k
  dart_of-signed k h =
      let l = length-map r.edges (λ (e : EdgeRow). e.id) in
      dart_is r.edges (signed_edge r.edges k) k
      (ap (place_of (map (λ e. e.id) r.edges)) (edge_id-get r.edges k h) ∙ place_at (map (λ e. e.id) r.edges) is.edges (k / 2) (omega arith))
      (forward_even r.edges k is.ids h)

  pub dart_there : (d : ℤ) → has_edge (signed_edges (map_of (own_rows r))) d ≡ true → (dart_of r.edges d < 2 * length r.edges) × (signed_edge r.edges (dart_of r.edges d) ≡ d)
  dart_there d h =
      let k = dart_place (own_rows r) d h in
      let e : dart_of r.edges d ≡ k.0 = ap (dart_of r.edges) (sym k.2) ∙ dart_of-signed k.0 k.1 in
      (subst (λ x. x < 2 * length r.edges) (sym e) k.1, ap (signed_edge r.edges) e ∙ k.2)

  pub one_dart : (j k : ℕ) → j < 2 * length r.edges → k < 2 * length r.edges → signed_edge r.edges j ≡ signed_edge r.edges k → j ≡ k
  one_dart j k h q e = sym (dart_of-signed j h) ∙ ap (dart_of r.edges) e ∙ dart_of-signed k q

  pub next_signed : (k : ℕ) → k < 2 * length r.edges → (next_dart r k < 2 * length r.edges) × (signed_edge r.edges (next_dart r k) ≡ next (map_of_rotation r) (signed_edge r.edges k))
  unfolding next_dart
  next_signed k h =
      dart_there (next (map_of_rotation r) (signed_edge r.edges k)) ((next_permutes (own_rows r) is.rotation).stays (signed_edge r.edges k) (signed_there (own_rows r) k h))

  pub signed-reverse : (k : ℕ) → signed_edge r.edges (reverse_dart k) ≡ reverse (signed_edge r.edges k)
  signed-reverse k = reverse_signed r.edges k

  pub turn_signed : (k : ℕ) → k < 2 * length r.edges → (darts.turn (next_dart r) k < 2 * length r.edges) × (signed_edge r.edges (darts.turn (next_dart r) k) ≡ turn (map_of_rotation r) (signed_edge r.edges k))
  turn_signed k h =
      let n = next_signed (reverse_dart k) (reverse_below k (length r.edges) h) in
      (n.0, n.1 ∙ ap (next (map_of_rotation r)) (signed-reverse k))

  -- what is read of a dart
  pub next_is : (k x : ℕ) → x < 2 * length r.edges → signed_edge r.edges x ≡ next (map_of_rotation r) (signed_edge r.edges k) → x ≡ next_dart r k
  unfolding next_dart
  next_is k x h e = sym (dart_of-signed x h) ∙ ap (dart_of r.edges) e

  pub turn_is : (k x : ℕ) → x < 2 * length r.edges → signed_edge r.edges x ≡ turn (map_of_rotation r) (signed_edge r.edges k) → x ≡ darts.turn (next_dart r) k
  turn_is k x h e = next_is (reverse_dart k) x h (e ∙ ap (next (map_of_rotation r)) (sym (signed-reverse k)))

  pub node_is : (k x : ℕ) → x < length r.nodes → node_id r.nodes x ≡ origin (map_of_rotation r) (signed_edge r.edges k) → x ≡ node_row r k
  unfolding node_row
  node_is k x h e =
      let l = length-map r.nodes (λ (n : NodeRow). n.id) in
      sym (place_at (map (λ n. n.id) r.nodes) is.nodes x (omega arith)) ∙ ap (place_of (map (λ n. n.id) r.nodes)) (sym (node_id-get r.nodes x) ∙ e)

  -- the node of a dart is there
  pub node_there : (k : ℕ) → k < 2 * length r.edges → has (map (λ n. n.id) r.nodes) (origin (map_of_rotation r) (signed_edge r.edges k)) ≡ true
  node_there k h =
      let rows = among same_edges (has_its_rows (map_of_rotation r)) (signed_edges (map_of_rotation r)) (signed_edge r.edges k) (tests (map_of_rotation r) is.rotation).rows (signed_there (own_rows r) k h) in
      found_has r.nodes (origin (map_of_rotation r) (signed_edge r.edges k)) (and_parts _ _ rows).0

  pub row_there : (k : ℕ) → k < 2 * length r.edges → node_row r k < length r.nodes
  unfolding node_row
  row_there k h =
      let l = length-map r.nodes (λ (n : NodeRow). n.id) in
      let p = (place_there (map (λ n. n.id) r.nodes) (origin (map_of_rotation r) (signed_edge r.edges k)) (node_there k h)).0 in
      omega arith

  pub node_signed : (k : ℕ) → k < 2 * length r.edges → (node_row r k < length r.nodes) × (node_id r.nodes (node_row r k) ≡ origin (map_of_rotation r) (signed_edge r.edges k))
  unfolding node_row
  node_signed k h =
      (row_there k h, node_id-get r.nodes (node_row r k) ∙ (place_there (map (λ n. n.id) r.nodes) (origin (map_of_rotation r) (signed_edge r.edges k)) (node_there k h)).1)

  pub same_origin : (j k : ℕ) → j < 2 * length r.edges → k < 2 * length r.edges → node_row r j ≡ node_row r k → origin (map_of_rotation r) (signed_edge r.edges j) ≡ origin (map_of_rotation r) (signed_edge r.edges k)
  unfolding node_row
  same_origin j k h q e =
      sym (place_there (map (λ n. n.id) r.nodes) (origin (map_of_rotation r) (signed_edge r.edges j)) (node_there j h)).1
      ∙ ap (λ i. get_or (map (λ n. n.id) r.nodes) i 0) e
      ∙ (place_there (map (λ n. n.id) r.nodes) (origin (map_of_rotation r) (signed_edge r.edges k)) (node_there k q)).1

  -- the next of a dart leaves its head
  follows_on : (k : ℕ) → k < 2 * length r.edges → node_row r (next_dart r k) ≡ node_row r (reverse_dart k)
  unfolding node_row
  follows_on k h =
      let meet = eqb-true _ _ (among same_edges (λ d. origin (map_of_rotation r) (next (map_of_rotation r) d) == head (map_of_rotation r) d) (signed_edges (map_of_rotation r)) (signed_edge r.edges k) (tests (map_of_rotation r) is.rotation).ends (signed_there (own_rows r) k h)) in
      ap (place_of (map (λ n. n.id) r.nodes)) (ap (origin (map_of_rotation r)) (next_signed k h).1 ∙ meet ∙ ap (origin (map_of_rotation r)) (sym (signed-reverse k)))

  -- signed edges are names of darts, which carry reverses, turns and nexts
  pub signed_names : Renames (λ k. k < 2 * length r.edges) (λ d. IsTrue (has_edge (signed_edges (map_of_rotation r)) d)) (signed_edge r.edges)
  signed_names = record {
    into = λ k h. signed_there (own_rows r) k h;
    one = one_dart;
    onto = λ d h. (let k = dart_there d h in (dart_of r.edges d, k.0, k.1));
  }

  pub turn_carried : Carries (λ k. k < 2 * length r.edges) (signed_edge r.edges) (darts.turn (next_dart r)) (turn (map_of_rotation r))
  turn_carried = record { stays = λ k h. (turn_signed k h).0; same = λ k h. (turn_signed k h).1 }

  pub reverse_carried : Carries (λ k. k < 2 * length r.edges) (signed_edge r.edges) reverse_dart reverse
  reverse_carried = record { stays = λ k h. reverse_below k (length r.edges) h; same = λ k h. signed-reverse k }

  -- the darts of a node are one orbit
  one_round : (d e : ℕ) → d < 2 * length r.edges → e < 2 * length r.edges → node_row r d ≡ node_row r e → (k : ℕ) × (turned (next_dart r) k d ≡ e)
  one_round d e h q same =
      let n = origin (map_of_rotation r) (signed_edge r.edges d) in
      let origins = same_origin d e h q same in
      let whole = sorting.among (is_whole_node (map_of_rotation r)) (map_of_rotation r).nodes.keys n (tests (map_of_rotation r) is.rotation).nodes (sorting.rising-has (map (λ n. n.id) r.nodes) n ∙ node_there d h) in
      let p : ℤ → Bool = λ x. origin (map_of_rotation r) x == n in
      let a = in_filter same_edges p (signed_edges (map_of_rotation r)) (signed_edge r.edges d) (eq-eqb n n refl) (signed_there (own_rows r) d h) in
      let b = in_filter same_edges p (signed_edges (map_of_rotation r)) (signed_edge r.edges e) (eq-eqb _ n (sym origins)) (signed_there (own_rows r) e q) in
      let on = on_round (map_of_rotation r) (turn_permutes (own_rows r) is.rotation) (leaving (map_of_rotation r) n) (and_parts _ _ whole).0
      (λ x there. (from_filter same_edges p (signed_edges (map_of_rotation r)) x there).1) (signed_edge r.edges d) (signed_edge r.edges e) a b in
      (meets_listed same_edges (λ k. k < 2 * length r.edges) (signed_edges (map_of_rotation r)) (signed_edge r.edges) (darts.turn (next_dart r)) (turn (map_of_rotation r))
      signed_names turn_carried (turn_permutes (own_rows r) is.rotation) d e h q).1 on

  pub numbered_system : IsNumberedSystem (length r.edges) (length r.nodes) (next_dart r) (node_row r)
  numbered_system = record {
    node_below = row_there;
    rotation = record {
      next_below = λ d h. (next_signed d h).0;
      next_once = λ d e h q same. one_dart d e h q ((next_permutes (own_rows r) is.rotation).one (signed_edge r.edges d) (signed_edge r.edges e) (signed_there (own_rows r) d h) (signed_there (own_rows r) e q)
          (sym (next_signed d h).1 ∙ ap (signed_edge r.edges) same ∙ (next_signed e q).1));
      follows = follows_on;
      round = one_round;
    };
  }
