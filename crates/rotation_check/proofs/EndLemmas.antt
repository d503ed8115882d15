-- Places of distinct ids, and the ends of darts.
use Rattle.std.proofs.Common.{◌≡◌, ℕ, zero, suc, ◌*◌, ◌/◌, ◌%◌, ◌<◌, inl, inr, ℤ, true, not, ◌==◌, List, [], ◌∷◌, map, length, get_or, refl, sym, ap, ◌∙◌, arith, eq-eqb, Some, None, of_z, to_z}
use Rattle.std.specs.Prelude.{unwrap_or, option_map, nat_lt}
use Rattle.std.specs.List.{list_all}
use Rattle.std.proofs.lemmas.Bool.{eqb-true, and_parts, cases_eq, or_left, or_right, both_ways, not-true, ne_eqb}
use Rattle.std.proofs.lemmas.List.{length-map}
use Rattle.std.proofs.lemmas.Option.{slice_get-map, slice_get-get_or, unwrap_or-slice_get}
use Rattle.topo_base.specs.declared.refusal.Refusal.TheVariants as refusal
use Rattle.topo_base.specs.SignedEdge.{edge_of, is_forward, is_signed_edge}
use Rattle.plane_model.specs.declared.rows.EdgeRow.{EdgeRow}
use Rattle.plane_model.specs.declared.rows.NodeRow.{NodeRow}
use Rattle.plane_model.specs.Rows.{Rows}
use Rattle.plane_model.specs.Sets.{has, is_distinct}
use Rattle.plane_model.specs.PlaneMap.{map_of, no_edge, next, origin, head}
use Rattle.plane_model.specs.Faults.{unless, wrong_end}
use Rattle.plane_model.proofs.Lookups.{edge_of-neg, is_backward, positive_id}
use Rattle.rotation_check.specs.Darts.{AreDarts, node_id, reverse_dart, signed_edge}
use Rattle.rotation_check.proofs.Ranges.{kept, signed_width, edge_ids_are, ids_positive}
use Rattle.rotation_check.proofs.Turning.{reverse-within, signed-reverse_dart}

stands : (xs : List ℕ) (i x : ℕ) → i < length xs → get_or xs i 0 ≡ x → has xs x ≡ true
stands [] i x h e = absurd (omega arith)
stands (y ∷ ys) zero x h e = or_left _ _ (eq-eqb x y (sym e))
stands (y ∷ ys) (suc i) x h e = or_right _ _ (stands ys i x (omega arith) e)

-- of distinct numbers no two places have one
pub one_place : (xs : List ℕ) → is_distinct xs ≡ true → (i j : ℕ) → i < length xs → j < length xs → get_or xs i 0 ≡ get_or xs j 0 → i ≡ j
one_place [] d i j h k e = absurd (omega arith)
one_place (x ∷ xs) d zero zero h k e = refl
one_place (x ∷ xs) d zero (suc j) h k e = absurd (both_ways _ (not-true _ (and_parts (not (has xs x)) (is_distinct xs) d).0) (stands xs j x (omega arith) (sym e)))
one_place (x ∷ xs) d (suc i) zero h k e = absurd (both_ways _ (not-true _ (and_parts (not (has xs x)) (is_distinct xs) d).0) (stands xs i x (omega arith) e))
one_place (x ∷ xs) d (suc i) (suc j) h k e = ap suc (one_place xs (and_parts (not (has xs x)) (is_distinct xs) d).1 i j (omega arith) (omega arith) e)

pub node_id-get : (nodes : List NodeRow) (nth : ℕ) → node_id nodes nth ≡ get_or (map (λ n. n.id) nodes) nth 0
node_id-get nodes nth = ap (λ o. unwrap_or o 0) (sym (slice_get-map (λ n. n.id) nodes nth)) ∙ unwrap_or-slice_get (map (λ n. n.id) nodes) nth 0

pub one_node : (nodes : List NodeRow) → is_distinct (map (λ n. n.id) nodes) ≡ true → (a b : ℕ) → a < length nodes → b < length nodes → node_id nodes a ≡ node_id nodes b → a ≡ b
one_node nodes distinct a b h k e =
    let l = length-map nodes (λ (n : NodeRow). n.id) in
    one_place (map (λ n. n.id) nodes) distinct a b (omega arith) (omega arith) (sym (node_id-get nodes a) ∙ e ∙ node_id-get nodes b)

-- the edge and the direction of a dart
pub edge_id-get : (edges : List EdgeRow) (dart : ℕ) → dart < 2 * length edges → edge_of (signed_edge edges dart) ≡ get_or (map (λ e. e.id) edges) (dart / 2) 0
edge_id-get edges dart h =
    let at = slice_get-get_or edges (dart / 2) no_edge (omega arith) in
    let is : get_or (map (λ e. e.id) edges) (dart / 2) 0 ≡ (get_or edges (dart / 2) no_edge).id =
    sym (unwrap_or-slice_get (map (λ e. e.id) edges) (dart / 2) 0) ∙ ap (λ o. unwrap_or o 0) (slice_get-map (λ e. e.id) edges (dart / 2) ∙ ap (option_map (λ e. e.id)) at) in
    elim (cases_eq (dart % 2) 0) [
      | inl e ↦ rw (at, eq-eqb (dart % 2) 0 e) (sym is)
      | inr ne ↦ rw (at, ne_eqb (dart % 2) 0 ne) (edge_of-neg (get_or edges (dart / 2) no_edge).id ∙ sym is)
    ]

-- the direction of a dart's signed edge
pub forward_even : (edges : List EdgeRow) (dart : ℕ) → list_all (λ e. nat_lt 0 e.id) edges ≡ true → dart < 2 * length edges → is_forward (signed_edge edges dart) ≡ (dart % 2 == 0)
forward_even edges dart ids h =
    let at = slice_get-get_or edges (dart / 2) no_edge (omega arith) in
    elim (cases_eq (dart % 2) 0) [
      | inl e ↦ rw (at, eq-eqb (dart % 2) 0 e) refl
      | inr ne ↦ rw (at, ne_eqb (dart % 2) 0 ne) (is_backward (get_or edges (dart / 2) no_edge).id (positive_id edges (dart / 2) (get_or edges (dart / 2) no_edge) ids at))
    ]

same_parity : (j k : ℕ) → (j % 2 == 0) ≡ (k % 2 == 0) → j % 2 ≡ k % 2
same_parity j k e = elim (cases_eq (j % 2) 0) [
  | inl a ↦ let b = eqb-true (k % 2) 0 (sym e ∙ eq-eqb (j % 2) 0 a) in omega arith
  | inr a ↦ elim (cases_eq (k % 2) 0) [
    | inl b ↦ absurd (both_ways _ (ne_eqb (j % 2) 0 a) (e ∙ eq-eqb (k % 2) 0 b))
    | inr b ↦ omega arith
  ]
]

-- no two darts have one signed edge
pub one_signed_edge : (edges : List EdgeRow) → list_all (λ e. nat_lt 0 e.id) edges ≡ true → is_distinct (map (λ e. e.id) edges) ≡ true → (j k : ℕ) → j < 2 * length edges → k < 2 * length edges → signed_edge edges j ≡ signed_edge edges k → j ≡ k
one_signed_edge edges ids distinct j k h q e =
    let l = length-map edges (λ (e : EdgeRow). e.id) in
    let half = one_place (map (λ e. e.id) edges) distinct (j / 2) (k / 2) (omega arith) (omega arith) (sym (edge_id-get edges j h) ∙ ap edge_of e ∙ edge_id-get edges k q) in
    let rest = same_parity j k (sym (forward_even edges j ids h) ∙ ap is_forward e ∙ forward_even edges k ids q) in
    omega arith

pub one_dart : (t : Rows) (nexts rows : List ℕ) → AreDarts t nexts rows → (j k : ℕ) → j < 2 * length t.edges → k < 2 * length t.edges → signed_edge t.edges j ≡ signed_edge t.edges k → j ≡ k
one_dart t nexts rows darts = one_signed_edge t.edges (ids_positive t.edges (edge_ids_are t darts.in_range)) darts.edge_ids

-- the ends of a dart and its next
origin_next : (t : Rows) (nexts rows : List ℕ) → AreDarts t nexts rows → (k : ℕ) → k < 2 * length t.edges → origin (map_of t) (next (map_of t) (signed_edge t.edges k)) ≡ node_id t.nodes (get_or rows (get_or nexts k 0) 0)
origin_next t nexts rows darts k h =
    let n = darts.next_darts.1 k h in
    ap (origin (map_of t)) (sym n.1) ∙ sym (darts.node_rows.1 (get_or nexts k 0) n.0).1

head_is : (t : Rows) (nexts rows : List ℕ) → AreDarts t nexts rows → (k : ℕ) → k < 2 * length t.edges → head (map_of t) (signed_edge t.edges k) ≡ node_id t.nodes (get_or rows (reverse_dart k) 0)
head_is t nexts rows darts k h =
    ap (origin (map_of t)) (sym (signed-reverse_dart t.edges k)) ∙ sym (darts.node_rows.1 (reverse_dart k) (reverse-within t.edges k h)).1

pub right_end : (t : Rows) (nexts rows : List ℕ) → AreDarts t nexts rows → (k : ℕ) → k < 2 * length t.edges → get_or rows (get_or nexts k 0) 0 ≡ get_or rows (reverse_dart k) 0 → wrong_end (map_of t) (signed_edge t.edges k) ≡ None
right_end t nexts rows darts k h e =
    let same : origin (map_of t) (next (map_of t) (signed_edge t.edges k)) ≡ head (map_of t) (signed_edge t.edges k) =
    origin_next t nexts rows darts k h ∙ ap (node_id t.nodes) e ∙ sym (head_is t nexts rows darts k h) in
    ap (λ b. unless b (refusal.WrongEnd (signed_edge t.edges k) (next (map_of t) (signed_edge t.edges k)))) (eq-eqb _ _ same)

pub not_right_end : (t : Rows) (nexts rows : List ℕ) → AreDarts t nexts rows → (k : ℕ) → k < 2 * length t.edges → (get_or rows (get_or nexts k 0) 0 ≡ get_or rows (reverse_dart k) 0 → ⊥)
    → wrong_end (map_of t) (signed_edge t.edges k) ≡ Some (refusal.WrongEnd (signed_edge t.edges k) (signed_edge t.edges (get_or nexts k 0)))
not_right_end t nexts rows darts k h ne =
    let n = darts.next_darts.1 k h in
    let a = (darts.node_rows.1 (get_or nexts k 0) n.0).0 in
    let b = (darts.node_rows.1 (reverse_dart k) (reverse-within t.edges k h)).0 in
    let differ : origin (map_of t) (next (map_of t) (signed_edge t.edges k)) ≡ head (map_of t) (signed_edge t.edges k) → ⊥ = λ e.
    ne (one_node t.nodes darts.node_ids _ _ a b (sym (origin_next t nexts rows darts k h) ∙ e ∙ head_is t nexts rows darts k h)) in
    ap (λ b. unless b (refusal.WrongEnd (signed_edge t.edges k) (next (map_of t) (signed_edge t.edges k)))) (ne_eqb _ _ differ)
    ∙ ap (λ d. Some (refusal.WrongEnd (signed_edge t.edges k) d)) (sym n.1)

-- the number of a signed edge that is given back
pub value_is : (v s d : ℤ) → v ≡ s → is_signed_edge s ≡ true → s ≡ d → to_z signed_width (of_z signed_width v) ≡ d
value_is v s d is signed same = ap (λ x. to_z signed_width (of_z signed_width x)) is ∙ kept s signed ∙ same

pub ends_are : (a b c d : ℤ) → a ≡ c → b ≡ d → Some (refusal.WrongEnd a b) ≡ Some (refusal.WrongEnd c d)
ends_are a b c d h k = ap (λ x. Some (refusal.WrongEnd x b)) h ∙ ap (λ x. Some (refusal.WrongEnd c x)) k
