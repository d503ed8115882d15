-- Whether the signed edges that leave a node are one orbit, by one round, and the least node where they are not.
use Rattle.std.proofs.Common.{◌≡◌, ℕ, zero, suc, ◌+◌, ◌*◌, ◌<◌, ◌≤◌, min, inl, inr, ℤ, Bool, true, false, not, ◌==◌, List, [], ◌∷◌, map, length, get_or, refl, sym, ap, ◌∙◌, subst, arith, eq-eqb, Option, Some, None}
use Rattle.std.specs.Prelude.{is_none, find, option_map, slice_get}
use Rattle.std.specs.Option.{option_map_or}
use Rattle.std.proofs.lemmas.Option.{get_or_from_slice_get, slice_get-map}
use Rattle.std.specs.List.{list_all}
use Rattle.std.proofs.lemmas.Bool.{eqb-true, and_from, or_cases, cases_Bool, cases_lt, or_left, or_right, both_ways}
use Rattle.std.proofs.lemmas.List.{length-map}
use Rattle.topo_base.specs.declared.refusal.Refusal.TheVariants as refusal
use Rattle.orbits.proofs.Lists.{in_filter, from_filter, pigeon, same_tests}
use Rattle.orbits.proofs.Orbits.{orbit_apart, orbit_same}
use Rattle.plane_model.specs.declared.rows.NodeRow.{NodeRow}
use Rattle.plane_model.specs.Rows.{Rows}
use Rattle.plane_model.specs.Sets.{has, has_edge, is_distinct_edges, rising}
use Rattle.plane_model.specs.PlaneMap.{PlaneMap, map_of, signed_edges, leaving, next, origin, round, turn}
use Rattle.plane_model.specs.Rotation.{is_one_orbit}
use Rattle.plane_model.specs.Orders.{Permutes, how_often}
use Rattle.plane_model.specs.Faults.{either_way, first_in, next_twice, split_node, wrong_end}
use Rattle.plane_model.proofs.SetLaws.{same_self, same_edges}
use Rattle.plane_model.proofs.NodeRounds.{ends_meet, fills, one_orbit-length, round_leaves}
use Rattle.plane_model.proofs.RotationFaults.{none-wrong_end, none-next_twice, nexts_there, signed_rows_rise}
use Rattle.plane_model.proofs.RotationOrbits.{next_from_parts, turn_from_next}
use Rattle.plane_model.proofs.SortedEdges.{rising_apart}
use Rattle.plane_model.proofs.Sorting.{least_found, none_found, rising-all}
use Rattle.rotation_check.specs.Counts.{AreCountsOfEach, ArePlacesOfEach}
use Rattle.rotation_check.specs.Darts.{AreDarts, node_id, signed_edge}
use Rattle.rotation_check.proofs.DartLists.{dart_place, signed_there}
use Rattle.rotation_check.proofs.EndLemmas.{node_id-get}
use Rattle.rotation_check.proofs.Leaving.{leaving-count}
use Rattle.rotation_check.proofs.SmallestNext.{all_by, further, not_of}

-- what the faults before this one leave
pub record Meets (m : PlaneMap) : Type 0 where
  pub ends : ends_meet m ≡ true
  pub permutes : Permutes (signed_edges m) (turn m)
  pub apart : is_distinct_edges (signed_edges m) ≡ true

nexts_are : (t : Rows) (nexts rows : List ℕ) → AreDarts t nexts rows → list_all (λ d. has_edge (signed_edges (map_of t)) (next (map_of t) d)) (signed_edges (map_of t)) ≡ true
nexts_are t nexts rows darts = all_by (λ d. has_edge (signed_edges (map_of t)) (next (map_of t) d)) (signed_edges (map_of t)) (λ d there.
    let k = dart_place t d there in
    let n = darts.next_darts.1 k.0 k.1 in
    subst (λ z. has_edge (signed_edges (map_of t)) z ≡ true) (n.1 ∙ ap (next (map_of t)) k.2) (signed_there t (get_or nexts k.0 0) n.0))

pub meets : (t : Rows) (nexts rows : List ℕ) → AreDarts t nexts rows → first_in (either_way (wrong_end (map_of t))) t.edges ≡ None → next_twice (map_of t) ≡ None → Meets (map_of t)
meets t nexts rows darts ends once =
    let there = nexts_are t nexts rows darts in
    let apart = sym (none-next_twice (map_of t) there) ∙ ap is_none once in
    record {
      ends = sym (none-wrong_end t) ∙ ap is_none ends;
      permutes = turn_from_next (map_of t) (next_from_parts t (sym (nexts_there t) ∙ there) apart);
      apart = rising_apart (signed_edges (map_of t)) (signed_rows_rise t darts.in_range darts.edge_ids);
    }

-- where one round fills a node, each does
round_fills : (m : PlaneMap) → Meets m → (n : ℕ) (d e : ℤ) → has_edge (leaving m n) d ≡ true → has_edge (leaving m n) e ≡ true → length (round m d) ≡ length (leaving m n) → length (round m e) ≡ length (leaving m n)
round_fills m ok n d e d_in e_in full =
    let us = signed_edges m in
    let d_us = (from_filter same_edges (λ d. origin m d == n) us d d_in).1 in
    let e_us = (from_filter same_edges (λ d. origin m d == n) us e e_in).1 in
    let d_apart = orbit_apart same_edges us (turn m) ok.permutes d d_us in
    let e_apart = orbit_apart same_edges us (turn m) ok.permutes e e_us in
    let on = fills (round m d) (leaving m n) d_apart (λ x on. round_leaves m ok.ends ok.permutes n d x d_in on) (omega arith) e e_in in
    let same = orbit_same same_edges us (turn m) ok.permutes d e d_us on in
    let a = pigeon same_edges (round m e) (round m d) e_apart (λ x k. sym (same x) ∙ k) in
    let b = pigeon same_edges (round m d) (round m e) d_apart (λ x k. same x ∙ k) in
    omega arith

-- so the round of any signed edge that leaves a node tells
pub any_round : (m : PlaneMap) → Meets m → (n : ℕ) (d : ℤ) → has_edge (leaving m n) d ≡ true → is_one_orbit m (leaving m n) ≡ (length (round m d) == length (leaving m n))
any_round m ok n d d_in = by_first (leaving m n) refl
  where
    by_first : (es : List ℤ) → leaving m n ≡ es → is_one_orbit m (leaving m n) ≡ (length (round m d) == length (leaving m n))
    by_first [] is = absurd (both_ways false refl (subst (λ es. has_edge es d ≡ true) is d_in))
    by_first (e ∷ es) is =
        let e_in : has_edge (leaving m n) e ≡ true = subst (λ xs. has_edge xs e ≡ true) (sym is) (or_left _ _ (same_self e)) in
        one_orbit-length m ok.ends ok.permutes ok.apart n e es is
        ∙ same_tests (length (round m e) == length (leaving m n)) (length (round m d) == length (leaving m n))
        (λ h. eq-eqb _ _ (round_fills m ok n e d e_in d_in (eqb-true _ _ h)))
        (λ h. eq-eqb _ _ (round_fills m ok n d e d_in e_in (eqb-true _ _ h)))

-- a value that stands somewhere
place_of : (xs : List ℕ) (x : ℕ) → 0 < how_often xs x → (k : ℕ) × (k < length xs) × (get_or xs k 0 ≡ x)
place_of [] x h = absurd (omega arith)
place_of (y ∷ ys) x h = elim (cases_Bool (x == y)) [
  | inl e ↦ (0, omega arith, sym (eqb-true x y e))
  | inr e ↦ let r = place_of ys x (rw e at h) in (suc r.0, (let lt = r.1 in omega arith), r.2)
]

-- the dart that stands for a node leaves it
pub place_leaves : (t : Rows) (nexts rows counts places : List ℕ) → AreDarts t nexts rows → AreCountsOfEach rows (length t.nodes) counts → ArePlacesOfEach rows (length t.nodes) places → (nth : ℕ) → nth < length t.nodes → 0 < get_or counts nth 0
    → (get_or places nth 0 < 2 * length t.edges) × (has_edge (leaving (map_of t) (node_id t.nodes nth)) (signed_edge t.edges (get_or places nth 0)) ≡ true)
place_leaves t nexts rows counts places darts are_counts are_places nth h some =
    let count = are_counts.count nth h in
    let k = place_of rows nth (omega arith) in
    let size = darts.node_rows.0 in
    let within : get_or places nth 0 < length rows = subst (λ r. get_or places r 0 < length rows) k.2 (are_places.within k.0 k.1) in
    let stands : get_or rows (get_or places nth 0) 0 ≡ nth = subst (λ r. get_or rows (get_or places r 0) 0 ≡ r) k.2 (are_places.stands k.0 k.1) in
    let lt : get_or places nth 0 < 2 * length t.edges = omega arith in
    let n = darts.node_rows.1 (get_or places nth 0) lt in
    let leaves : origin (map_of t) (signed_edge t.edges (get_or places nth 0)) ≡ node_id t.nodes nth = sym n.1 ∙ ap (node_id t.nodes) stands in
    (lt, in_filter same_edges (λ d. origin (map_of t) d == node_id t.nodes nth) (signed_edges (map_of t)) (signed_edge t.edges (get_or places nth 0)) (eq-eqb _ _ leaves) (signed_there t (get_or places nth 0) lt))

pub split_is : (t : Rows) (nexts rows counts places : List ℕ) → AreDarts t nexts rows → AreCountsOfEach rows (length t.nodes) counts → ArePlacesOfEach rows (length t.nodes) places → Meets (map_of t) → (nth : ℕ) → nth < length t.nodes → 0 < get_or counts nth 0
    → is_one_orbit (map_of t) (leaving (map_of t) (node_id t.nodes nth)) ≡ (length (round (map_of t) (signed_edge t.edges (get_or places nth 0))) == get_or counts nth 0)
split_is t nexts rows counts places darts are_counts are_places ok nth h some =
    let p = place_leaves t nexts rows counts places darts are_counts are_places nth h some in
    any_round (map_of t) ok (node_id t.nodes nth) (signed_edge t.edges (get_or places nth 0)) p.1
    ∙ ap (λ n. length (round (map_of t) (signed_edge t.edges (get_or places nth 0))) == n) (leaving-count t nexts rows darts nth h ∙ sym (are_counts.count nth h))

none_leave : (m : PlaneMap) (ds : List ℤ) → length ds ≡ 0 → is_one_orbit m ds ≡ true
none_leave m [] h = refl
none_leave m (d ∷ ds) h = absurd (omega arith)

pub split_none : (t : Rows) (nexts rows counts : List ℕ) → AreDarts t nexts rows → AreCountsOfEach rows (length t.nodes) counts → (nth : ℕ) → nth < length t.nodes → get_or counts nth 0 ≤ 0
    → is_one_orbit (map_of t) (leaving (map_of t) (node_id t.nodes nth)) ≡ true
split_none t nexts rows counts darts are_counts nth h none =
    let a = leaving-count t nexts rows darts nth h in
    let b = are_counts.count nth h in
    none_leave (map_of t) (leaving (map_of t) (node_id t.nodes nth)) (omega arith)

-- n is the least that passes of the first k
pub record IsLeastOf (p : ℕ → Bool) (ids : ℕ → ℕ) (k : ℕ) (n : ℕ) : Type 0 where
  pub there : (j : ℕ) × (j < k) × (ids j ≡ n)
  pub passes : p n ≡ true
  pub least : (j : ℕ) → j < k → p (ids j) ≡ true → n ≤ ids j

abbrev pub LeastTo : (ℕ → Bool) → (ℕ → ℕ) → ℕ → Option ℕ → Type 0
LeastTo p ids k None = (j : ℕ) → j < k → p (ids j) ≡ false
LeastTo p ids k (Some n) = IsLeastOf p ids k n

least_skip : (p : ℕ → Bool) (ids : ℕ → ℕ) (k : ℕ) (least : Option ℕ) → p (ids k) ≡ false → LeastTo p ids k least → LeastTo p ids (k + 1) least
least_skip p ids k None h old = further (λ j. p (ids j) ≡ false) k old h
least_skip p ids k (Some n) h old =
    record {
      there = (old.there.0, (let lt = old.there.1 in omega arith), old.there.2);
      passes = old.passes;
      least = further (λ j. p (ids j) ≡ true → n ≤ ids j) k old.least (λ q. absurd (both_ways _ h q));
    }

least_next : (p : ℕ → Bool) (ids : ℕ → ℕ) (k : ℕ) (least : Option ℕ) → p (ids k) ≡ true → LeastTo p ids k least → LeastTo p ids (k + 1) (Some (option_map_or (λ n. min n (ids k)) least (ids k)))
least_next p ids k None h old =
    record {
      there = (k, omega arith, refl);
      passes = h;
      least = further (λ j. p (ids j) ≡ true → ids k ≤ ids j) k (λ j q e. absurd (both_ways _ (old j q) e)) (λ q. omega arith);
    }
least_next p ids k (Some n) h old = elim (cases_lt (ids k) n) [
  | inl lt ↦ subst (IsLeastOf p ids (k + 1)) (let e : ids k ≡ min n (ids k) = omega arith in e) (record {
    there = (k, omega arith, refl);
    passes = h;
    least = further (λ j. p (ids j) ≡ true → ids k ≤ ids j) k (λ j q e. let a = old.least j q e in omega arith) (λ q. omega arith);
  })
  | inr le ↦ subst (IsLeastOf p ids (k + 1)) (let e : n ≡ min n (ids k) = omega arith in e) (record {
    there = (old.there.0, (let lt = old.there.1 in omega arith), old.there.2);
    passes = old.passes;
    least = further (λ j. p (ids j) ≡ true → n ≤ ids j) k old.least (λ q. le);
  })
]

-- one nth further, as the loop goes
pub least_step : (p : ℕ → Bool) (ids : ℕ → ℕ) (k : ℕ) (old new : Option ℕ) (given r : ℕ) → p (ids k) ≡ true → given ≡ ids k → r ≡ option_map_or (λ n. min n given) old given → new ≡ Some r → LeastTo p ids k old → LeastTo p ids (k + 1) new
least_step p ids k old new given r h is r_is new_is so_far =
    let same : r ≡ option_map_or (λ n. min n (ids k)) old (ids k) = r_is ∙ ap (λ g. option_map_or (λ n. min n g) old g) is in
    subst (LeastTo p ids (k + 1)) (sym (new_is ∙ ap Some same)) (least_next p ids k old h so_far)

pub least_kept : (p : ℕ → Bool) (ids : ℕ → ℕ) (k : ℕ) (old new : Option ℕ) → p (ids k) ≡ false → new ≡ old → LeastTo p ids k old → LeastTo p ids (k + 1) new
least_kept p ids k old new h is so_far = subst (LeastTo p ids (k + 1)) (sym is) (least_skip p ids k old h so_far)

-- what is found among all ids
all_places : (s : ℕ → Bool) (xs : List ℕ) → ((i : ℕ) → i < length xs → s (get_or xs i 0) ≡ true) → list_all s xs ≡ true
all_places s [] h = refl
all_places s (x ∷ xs) h = and_from (s x) (list_all s xs) (h 0 (omega arith)) (all_places s xs (λ i k. h (suc i) (omega arith)))

place_in : (xs : List ℕ) (x : ℕ) → has xs x ≡ true → (k : ℕ) × (k < length xs) × (get_or xs k 0 ≡ x)
place_in [] x h = absurd (both_ways false refl h)
place_in (y ∷ ys) x h = elim (or_cases (x == y) (has ys x) h) [
  | inl e ↦ (0, omega arith, sym (eqb-true x y e))
  | inr more ↦ let r = place_in ys x more in (suc r.0, (let lt = r.1 in omega arith), r.2)
]

at_place : (xs : List ℕ) (k : ℕ) → k < length xs → has xs (get_or xs k 0) ≡ true
at_place [] k h = absurd (omega arith)
at_place (x ∷ xs) zero h = or_left _ _ (eq-eqb x x refl)
at_place (x ∷ xs) (suc k) h = or_right _ _ (at_place xs k (omega arith))

pub least_of_all : (p : ℕ → Bool) (xs : List ℕ) (least : Option ℕ) → LeastTo p (λ k. get_or xs k 0) (length xs) least → find p (rising xs) ≡ least
least_of_all p xs None all = none_found p (rising xs) (rising-all (λ x. not (p x)) xs ∙ all_places (λ x. not (p x)) xs (λ i h. not_of (p (get_or xs i 0)) (all i h)))
least_of_all p xs (Some n) all = least_found p xs n (record {
  there = subst (λ x. has xs x ≡ true) all.there.2 (at_place xs all.there.0 all.there.1);
  passes = all.passes;
  least = λ y there passes.
      let k = place_in xs y there in
      subst (λ z. n ≤ z) k.2 (all.least k.0 k.1 (subst (λ z. p z ≡ true) (sym k.2) passes));
})

-- whether what leaves a node is more than one orbit
abbrev pub is_split_at : Rows → ℕ → Bool
is_split_at t n = not (is_one_orbit (map_of t) (leaving (map_of t) n))

abbrev pub node_ids_of : Rows → ℕ → ℕ
node_ids_of t k = get_or (map (λ n. n.id) t.nodes) k 0

split_least : (t : Rows) (k : ℕ) (least : Option ℕ) → k ≡ length t.nodes → LeastTo (is_split_at t) (node_ids_of t) k least → split_node (map_of t) ≡ option_map refusal.SplitNode least
split_least t k least whole all =
    ap (option_map refusal.SplitNode)
    (least_of_all (is_split_at t) (map (λ n. n.id) t.nodes) least (subst (λ n. LeastTo (is_split_at t) (node_ids_of t) n least) (whole ∙ sym (length-map t.nodes (λ (n : NodeRow). n.id))) all))

-- what the loop ends with
pub split_node_none : (t : Rows) (k : ℕ) (least : Option ℕ) → k ≡ length t.nodes → least ≡ None → LeastTo (is_split_at t) (node_ids_of t) k least → split_node (map_of t) ≡ None
split_node_none t k least whole is all = split_least t k least whole all ∙ ap (option_map refusal.SplitNode) is

pub split_node_some : (t : Rows) (k : ℕ) (least : Option ℕ) (n : ℕ) → k ≡ length t.nodes → least ≡ Some n → LeastTo (is_split_at t) (node_ids_of t) k least → split_node (map_of t) ≡ Some (refusal.SplitNode n)
split_node_some t k least n whole is all = split_least t k least whole all ∙ ap (option_map refusal.SplitNode) is

-- the id of the nth that a loop reads
pub id_of_row : (t : Rows) (k : ℕ) (node : NodeRow) → slice_get t.nodes k ≡ Some node → node.id ≡ node_ids_of t k
id_of_row t k node at = sym (get_or_from_slice_get (map (λ n. n.id) t.nodes) k node.id 0 (slice_get-map (λ (n : NodeRow). n.id) t.nodes k ∙ ap (option_map (λ (n : NodeRow). n.id)) at))

pub split_at_row : (t : Rows) (k : ℕ) (b answer : Bool) → answer ≡ not (is_one_orbit (map_of t) (leaving (map_of t) (node_id t.nodes k))) → answer ≡ b → is_split_at t (node_ids_of t k) ≡ b
split_at_row t k b answer is h = ap (is_split_at t) (sym (node_id-get t.nodes k)) ∙ sym is ∙ h
