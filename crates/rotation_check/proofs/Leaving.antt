-- How many signed edges leave a node, and how many have a signed edge for their next, as counts of darts.
use Rattle.std.proofs.Common.{◌≡◌, ℕ, zero, suc, ◌*◌, ◌<◌, inl, inr, ℤ, pos, Bool, true, false, ◌==◌, List, [], ◌∷◌, filter, length, get_or, refl, sym, ap, ◌∙◌, subst, arith, eq-eqb, Some, None}
use Rattle.std.specs.Prelude.{nat_lt, is_some, unwrap_or, option_map, slice_get}
use Rattle.std.proofs.lemmas.Option.{slice_get_within}
use Rattle.std.proofs.lemmas.Bool.{eqb-true, cases_Bool, both_ways, lt-ltb, ne_eqb}
use Rattle.topo_base.specs.SignedEdge.{same_edge}
use Rattle.topo_base.specs.declared.refusal.Refusal.TheVariants as refusal
use Rattle.orbits.proofs.Lists.{same_tests}
use Rattle.plane_model.specs.declared.rows.NodeRow.{NodeRow}
use Rattle.plane_model.specs.Rows.{Rows}
use Rattle.plane_model.specs.Orders.{how_often}
use Rattle.plane_model.specs.PlaneMap.{PlaneMap, map_of, signed_edges, leaving, next, origin}
use Rattle.plane_model.specs.Faults.{node_with_face}
use Rattle.plane_model.proofs.SetLaws.{same_is, same_self}
use Rattle.rotation_check.specs.Darts.{AreDarts, node_id, signed_edge}
use Rattle.rotation_check.specs.Counts.{AreCountsOfEach}
use Rattle.rotation_check.proofs.DartLists.{dart_edges, number_of, number_of-signed, length-dart_edges, get-dart_edges}
use Rattle.rotation_check.proofs.EndLemmas.{one_node, one_dart}

same_counts : (q : ℕ → Bool) (p : ℤ → Bool) (xs : List ℕ) (ds : List ℤ) → length xs ≡ length ds → ((k : ℕ) → k < length xs → q (get_or xs k 0) ≡ p (get_or ds k (pos 0))) → length (filter q xs) ≡ number_of p ds
same_counts q p [] [] size same = refl
same_counts q p [] (d ∷ ds) size same = absurd (omega arith)
same_counts q p (x ∷ xs) [] size same = absurd (omega arith)
same_counts q p (x ∷ xs) (d ∷ ds) size same =
    let own : q x ≡ p d = same 0 (omega arith) in
    let more = same_counts q p xs ds (omega arith) (λ k h. same (suc k) (omega arith)) in
    elim (cases_Bool (p d)) [ inl e ↦ rw (own, e) (ap suc more) | inr e ↦ rw (own, e) more ]

-- as many signed edges leave a node as darts have its row
pub leaving-count : (t : Rows) (nexts rows : List ℕ) → AreDarts t nexts rows → (row : ℕ) → row < length t.nodes → length (leaving (map_of t) (node_id t.nodes row)) ≡ how_often rows row
leaving-count t nexts rows darts row h =
    let m = map_of t in
    let p : ℤ → Bool = λ d. origin m d == node_id t.nodes row in
    let size = darts.node_rows.0 in
    let l = length-dart_edges t.edges in
    number_of-signed p t
    ∙ sym (same_counts (λ y. row == y) p rows (dart_edges t.edges) (omega arith) (λ k q.
    let lt : k < 2 * length t.edges = omega arith in
    let n = darts.node_rows.1 k lt in
    let is = get-dart_edges t.edges k (pos 0) lt in
    same_tests (row == get_or rows k 0) (p (get_or (dart_edges t.edges) k (pos 0)))
    (λ e. eq-eqb _ _ (ap (origin m) is ∙ sym n.1 ∙ ap (node_id t.nodes) (sym (eqb-true row (get_or rows k 0) e))))
    (λ e. eq-eqb row (get_or rows k 0) (one_node t.nodes darts.node_ids row (get_or rows k 0) h n.0 (sym (eqb-true _ _ e) ∙ ap (origin m) is ∙ sym n.1)))))

-- as many signed edges have a dart's for their next as darts have the dart
pub befores-count : (t : Rows) (nexts rows : List ℕ) → AreDarts t nexts rows → (dart : ℕ) → dart < 2 * length t.edges
    → length (filter (λ d. same_edge (next (map_of t) d) (signed_edge t.edges dart)) (signed_edges (map_of t))) ≡ how_often nexts dart
befores-count t nexts rows darts dart h =
    let m = map_of t in
    let p : ℤ → Bool = λ d. same_edge (next m d) (signed_edge t.edges dart) in
    let size = darts.next_darts.0 in
    let l = length-dart_edges t.edges in
    number_of-signed p t
    ∙ sym (same_counts (λ y. dart == y) p nexts (dart_edges t.edges) (omega arith) (λ k q.
    let lt : k < 2 * length t.edges = omega arith in
    let n = darts.next_darts.1 k lt in
    let is = get-dart_edges t.edges k (pos 0) lt in
    let next_is : next m (get_or (dart_edges t.edges) k (pos 0)) ≡ signed_edge t.edges (get_or nexts k 0) = ap (next m) is ∙ sym n.1 in
    same_tests (dart == get_or nexts k 0) (p (get_or (dart_edges t.edges) k (pos 0)))
    (λ e. subst (λ z. same_edge z (signed_edge t.edges dart) ≡ true) (sym (next_is ∙ ap (signed_edge t.edges) (sym (eqb-true dart (get_or nexts k 0) e)))) (same_self (signed_edge t.edges dart)))
    (λ e. eq-eqb dart (get_or nexts k 0) (one_dart t nexts rows darts dart (get_or nexts k 0) h n.0 (sym (same_is _ _ e) ∙ next_is)))))

-- a face that a node names, against how many leave it
pub face_fits_not : (m : PlaneMap) (n : NodeRow) (k : ℕ) → length (leaving m n.id) ≡ k → is_some n.face ≡ nat_lt 0 k → node_with_face m n ≡ Some (refusal.NodeFace n.id)
face_fits_not m n k is e = by_case (is_some n.face) k refl is e
  where
    by_case : (b : Bool) (j : ℕ) → is_some n.face ≡ b → length (leaving m n.id) ≡ j → is_some n.face ≡ nat_lt 0 j → node_with_face m n ≡ Some (refusal.NodeFace n.id)
    by_case true zero f l q = absurd (both_ways _ q f)
    by_case true (suc j) f l q = rw (f, l, ne_eqb (suc j) 0 (λ e. omega arith)) refl
    by_case false zero f l q = rw (f, l) refl
    by_case false (suc j) f l q = absurd (both_ways _ f (q ∙ lt-ltb 0 (suc j) (omega arith)))

pub face_fits : (m : PlaneMap) (n : NodeRow) (k : ℕ) → length (leaving m n.id) ≡ k → (is_some n.face ≡ nat_lt 0 k → ⊥) → node_with_face m n ≡ None
face_fits m n k is e = by_case (is_some n.face) k refl is e
  where
    by_case : (b : Bool) (j : ℕ) → is_some n.face ≡ b → length (leaving m n.id) ≡ j → (is_some n.face ≡ nat_lt 0 j → ⊥) → node_with_face m n ≡ None
    by_case true zero f l q = rw (f, l) refl
    by_case true (suc j) f l q = absurd (q (f ∙ sym (lt-ltb 0 (suc j) (omega arith))))
    by_case false zero f l q = absurd (q f)
    by_case false (suc j) f l q = rw (f, l, lt-ltb 0 (suc j) (omega arith)) refl

-- the same of the row of a loop
pub face_loop : (t : Rows) (nexts rows counts : List ℕ) (k : ℕ) (node : NodeRow) → AreDarts t nexts rows → AreCountsOfEach rows (length t.nodes) counts → slice_get t.nodes k ≡ Some node
    → length (leaving (map_of t) node.id) ≡ get_or counts k 0
face_loop t nexts rows counts k node darts are at =
    let lt = slice_get_within t.nodes k node at in
    let id_is : node_id t.nodes k ≡ node.id = ap (λ o. unwrap_or (option_map (λ (n : NodeRow). n.id) o) 0) at in
    ap (λ n. length (leaving (map_of t) n)) (sym id_is) ∙ leaving-count t nexts rows darts k lt ∙ sym (are.count k lt)
