-- The next and the node of each dart, as the rows of edges are gone through.
use Rattle.std.proofs.Common.{◌≡◌, ℕ, zero, suc, ◌+◌, ◌*◌, ◌/◌, ◌%◌, ◌<◌, ◌≤◌, inl, inr, ℤ, pos, negsuc, neg_ℤ, Bool, true, false, ◌==◌, List, [], ◌∷◌, ◌++◌, map, drop, length, get_or, refl, sym, ap, ◌∙◌, subst, arith, eq-eqb, Some, None}
use Rattle.std.specs.Prelude.{slice_get, option_map, nat_lt}
use Rattle.std.specs.List.{list_all}
use Rattle.std.proofs.lemmas.Bool.{cases_lt, cases_eq, ne_eqb}
use Rattle.std.proofs.lemmas.List.{length-append}
use Rattle.std.proofs.Math.ListN.{get_or-append}
use Rattle.std.proofs.lemmas.List.{get_or_push}
use Rattle.std.proofs.lemmas.Option.{unwrap_or-slice_get, slice_get-map, slice_get_within, slice_get-get_or, get_or_from_slice_get}
use Rattle.std.proofs.lemmas.Map.Keys.{any_passes_from_place}
use Rattle.topo_base.specs.declared.refusal.Refusal.{Refusal}
use Rattle.topo_base.specs.SignedEdge.{edge_of, is_forward}
use Rattle.plane_model.specs.declared.rows.EdgeRow.{EdgeRow}
use Rattle.plane_model.specs.Rows.{Rows}
use Rattle.plane_model.specs.Sets.{has, is_distinct}
use Rattle.plane_model.specs.PlaneMap.{map_of, no_edge, next, origin}
use Rattle.plane_model.specs.Faults.{first_of, first_in, unless, no_node, no_edge_row}
use Rattle.plane_model.proofs.Lookups.{edge_of-neg, row_of-forward, row_of-backward, is_backward, positive_id}
use Rattle.rotation_check.specs.Darts.{AreNexts, AreNodes, IsDartOf, node_id, signed_edge}
use Rattle.rotation_check.proofs.FirstIn.{first_in-drop}

-- of two tests, the first that fails
pub first_fails : (a b : Bool) (x y : Refusal) → a ≡ false → first_of (unless a x ∷ unless b y ∷ []) ≡ Some x
first_fails a b x y h = rw h refl

pub second_fails : (a b : Bool) (x y : Refusal) → a ≡ true → b ≡ false → first_of (unless a x ∷ unless b y ∷ []) ≡ Some y
second_fails a b x y h k = rw (h, k) refl

pub none_fails : (a b : Bool) (x y : Refusal) → a ≡ true → b ≡ true → first_of (unless a x ∷ unless b y ∷ []) ≡ None
none_fails a b x y h k = rw (h, k) refl

half_even : (row : ℕ) → (2 * row) / 2 ≡ row
half_even row = omega arith

half_odd : (row : ℕ) → (2 * row + 1) / 2 ≡ row
half_odd row = omega arith

even : (row : ℕ) → (2 * row) % 2 ≡ 0
even row = omega arith

odd : (row : ℕ) → (2 * row + 1) % 2 ≡ 0 → ⊥
odd row h = omega arith

-- the signed edges of the two darts of a row
pub signed-even : (edges : List EdgeRow) (row : ℕ) (e : EdgeRow) → slice_get edges row ≡ Some e → signed_edge edges (2 * row) ≡ pos e.id
signed-even edges row e h = rw (half_even row, h, eq-eqb ((2 * row) % 2) 0 (even row)) refl

pub signed-odd : (edges : List EdgeRow) (row : ℕ) (e : EdgeRow) → slice_get edges row ≡ Some e → signed_edge edges (2 * row + 1) ≡ neg_ℤ (pos e.id)
signed-odd edges row e h = rw (half_odd row, h, ne_eqb ((2 * row + 1) % 2) 0 (odd row)) refl

-- a row with an id
row_with : {R : Type 0} (key : R → ℕ) (rows : List R) (row id : ℕ) → slice_get (map key rows) row ≡ Some id → (r : R) × (slice_get rows row ≡ Some r) × (key r ≡ id)
row_with key [] row id h = cc
row_with key (x ∷ xs) zero id h = (x, refl, let same : Some (key x) ≡ Some id = h in cc)
row_with key (x ∷ xs) (suc row) id h = row_with key xs row id h

pub dart_forward : (edges : List EdgeRow) (row : ℕ) (d : ℤ) → slice_get (map (λ e. e.id) edges) row ≡ Some (edge_of d) → is_forward d ≡ true → IsDartOf edges d (2 * row)
dart_forward edges row (pos n) h forward =
    let r = row_with (λ e. e.id) edges row n h in
    let within = slice_get_within edges row r.0 r.1 in
    record { within = omega arith; is = signed-even edges row r.0 r.1 ∙ ap pos r.2 }
dart_forward edges row (negsuc n) h forward = cc

pub dart_backward : (edges : List EdgeRow) (row : ℕ) (d : ℤ) → slice_get (map (λ e. e.id) edges) row ≡ Some (edge_of d) → is_forward d ≡ false → IsDartOf edges d (2 * row + 1)
dart_backward edges row (pos n) h backward = cc
dart_backward edges row (negsuc n) h backward =
    let r = row_with (λ e. e.id) edges row (suc n) h in
    let within = slice_get_within edges row r.0 r.1 in
    record { within = omega arith; is = signed-odd edges row r.0 r.1 ∙ ap (λ k. neg_ℤ (pos k)) r.2 }

-- what holds of each place so far, and of two more
pub pairs_next : (P : ℕ → ℕ → Type 0) (xs : List ℕ) (k a b : ℕ) → length xs ≡ 2 * k → ((j : ℕ) → j < 2 * k → P j (get_or xs j 0)) → P (2 * k) a → P (2 * k + 1) b
    → (j : ℕ) → j < 2 * (k + 1) → P j (get_or ((xs ++ a ∷ []) ++ b ∷ []) j 0)
pairs_next P xs k a b size old pa pb j h =
    let more = length-append xs (a ∷ []) in
    elim (cases_lt j (2 * k)) [
      | inl lt ↦ subst (P j) (sym (get_or-append (xs ++ a ∷ []) (b ∷ []) 0 j (omega arith) ∙ get_or-append xs (a ∷ []) 0 j (omega arith))) (old j lt)
      | inr ge ↦ elim (cases_eq j (2 * k)) [
        | inl is ↦ subst (λ i. P i (get_or ((xs ++ a ∷ []) ++ b ∷ []) i 0)) (sym is)
            (subst (P (2 * k)) (sym (get_or-append (xs ++ a ∷ []) (b ∷ []) 0 (2 * k) (omega arith) ∙ get_or_push xs a 0 (2 * k) size)) pa)
        | inr ne ↦
            let is : j ≡ 2 * k + 1 = omega arith in
            subst (λ i. P i (get_or ((xs ++ a ∷ []) ++ b ∷ []) i 0)) (sym is)
            (subst (P (2 * k + 1)) (sym (get_or_push (xs ++ a ∷ []) b 0 (2 * k + 1) (more ∙ ap (λ n. n + 1) size))) pb)
      ]
    ]

-- the row of the node that a dart leaves
pub IsNodeOf : Rows → ℕ → ℕ → Type 0
IsNodeOf t dart row = (row < length t.nodes) × (node_id t.nodes row ≡ origin (map_of t) (signed_edge t.edges dart))

pub record NodesTo (t : Rows) (k : ℕ) (nodes : List ℕ) : Type 0 where
  pub size : length nodes ≡ 2 * k
  pub are : (dart : ℕ) → dart < 2 * k → IsNodeOf t dart (get_or nodes dart 0)
  pub rest : first_in (no_node (map_of t)) (drop k t.edges) ≡ first_in (no_node (map_of t)) t.edges

node_with : (t : Rows) (row id : ℕ) → slice_get (map (λ n. n.id) t.nodes) row ≡ Some id → (row < length t.nodes) × (node_id t.nodes row ≡ id)
node_with t row id h =
    let r = row_with (λ n. n.id) t.nodes row id h in
    (slice_get_within t.nodes row r.0 r.1, rw r.1 r.2)

pub nodes_next : (t : Rows) (k : ℕ) (nodes : List ℕ) (s e : ℕ) (edge : EdgeRow) → is_distinct (map (λ e. e.id) t.edges) ≡ true → list_all (λ e. nat_lt 0 e.id) t.edges ≡ true → slice_get t.edges k ≡ Some edge
    → slice_get (map (λ n. n.id) t.nodes) s ≡ Some edge.start → slice_get (map (λ n. n.id) t.nodes) e ≡ Some edge.end
    → no_node (map_of t) edge ≡ None → NodesTo t k nodes → NodesTo t (k + 1) ((nodes ++ s ∷ []) ++ e ∷ [])
unfolding IsNodeOf
nodes_next t k nodes s e edge distinct ids at start end fine old =
    let same = get_or_from_slice_get t.edges k edge no_edge at in
    let a = node_with t s edge.start start in
    let b = node_with t e edge.end end in
    let forward : origin (map_of t) (signed_edge t.edges (2 * k)) ≡ edge.start = ap (origin (map_of t)) (signed-even t.edges k edge at) ∙ ap (λ r. r.start) (row_of-forward t k edge distinct at) in
    let backward : origin (map_of t) (signed_edge t.edges (2 * k + 1)) ≡ edge.end =
    ap (origin (map_of t)) (signed-odd t.edges k edge at) ∙ rw (is_backward edge.id (positive_id t.edges k edge ids at)) (ap (λ r. r.end) (row_of-backward t k edge distinct at)) in
    let more = length-append (nodes ++ s ∷ []) (e ∷ []) in
    let less = length-append nodes (s ∷ []) in
    let size = old.size in
    record {
      size = omega arith;
      are = pairs_next (IsNodeOf t) nodes k s e old.size old.are (a.0, a.1 ∙ sym forward) (b.0, b.1 ∙ sym backward);
      rest = first_in-drop (no_node (map_of t)) t.edges k no_edge (slice_get_within t.edges k edge at) (ap (no_node (map_of t)) same ∙ fine) ∙ old.rest;
    }

pub nodes_first : (t : Rows) → NodesTo t 0 []
nodes_first t = record { size = refl; are = λ dart h. absurd (omega arith); rest = refl }

pub nodes_all : (t : Rows) (nodes : List ℕ) → NodesTo t (length t.edges) nodes → AreNodes t.nodes t.edges nodes
unfolding IsNodeOf
nodes_all t nodes all = (all.size, all.are)

-- the dart of a dart's next
pub IsNextOf : Rows → ℕ → ℕ → Type 0
IsNextOf t dart after = (after < 2 * length t.edges) × (signed_edge t.edges after ≡ next (map_of t) (signed_edge t.edges dart))

pub record NextsTo (t : Rows) (k : ℕ) (nexts : List ℕ) : Type 0 where
  pub size : length nexts ≡ 2 * k
  pub are : (dart : ℕ) → dart < 2 * k → IsNextOf t dart (get_or nexts dart 0)
  pub rest : first_in (no_edge_row (map_of t)) (drop k t.edges) ≡ first_in (no_edge_row (map_of t)) t.edges

pub nexts_next : (t : Rows) (k : ℕ) (nexts : List ℕ) (l r : ℕ) (edge : EdgeRow) → is_distinct (map (λ e. e.id) t.edges) ≡ true → list_all (λ e. nat_lt 0 e.id) t.edges ≡ true → slice_get t.edges k ≡ Some edge
    → IsDartOf t.edges edge.next_left l → IsDartOf t.edges edge.next_right r
    → no_edge_row (map_of t) edge ≡ None → NextsTo t k nexts → NextsTo t (k + 1) ((nexts ++ l ∷ []) ++ r ∷ [])
unfolding IsNextOf
nexts_next t k nexts l r edge distinct ids at left right fine old =
    let same = get_or_from_slice_get t.edges k edge no_edge at in
    let forward : next (map_of t) (signed_edge t.edges (2 * k)) ≡ edge.next_left = ap (next (map_of t)) (signed-even t.edges k edge at) ∙ ap (λ r. r.next_left) (row_of-forward t k edge distinct at) in
    let backward : next (map_of t) (signed_edge t.edges (2 * k + 1)) ≡ edge.next_right =
    ap (next (map_of t)) (signed-odd t.edges k edge at) ∙ rw (is_backward edge.id (positive_id t.edges k edge ids at)) (ap (λ r. r.next_right) (row_of-backward t k edge distinct at)) in
    let more = length-append (nexts ++ l ∷ []) (r ∷ []) in
    let less = length-append nexts (l ∷ []) in
    let size = old.size in
    record {
      size = omega arith;
      are = pairs_next (IsNextOf t) nexts k l r old.size old.are (left.within, left.is ∙ sym forward) (right.within, right.is ∙ sym backward);
      rest = first_in-drop (no_edge_row (map_of t)) t.edges k no_edge (slice_get_within t.edges k edge at) (ap (no_edge_row (map_of t)) same ∙ fine) ∙ old.rest;
    }

pub nexts_all : (t : Rows) (nexts : List ℕ) → NextsTo t (length t.edges) nexts → AreNexts t.edges nexts
unfolding IsNextOf
nexts_all t nexts all = (all.size, all.are)

pub row_within : (edges : List EdgeRow) (row id : ℕ) → slice_get (map (λ e. e.id) edges) row ≡ Some id → row < length edges
row_within edges row id h = let r = row_with (λ e. e.id) edges row id h in slice_get_within edges row r.0 r.1

pub nexts_first : (t : Rows) → NextsTo t 0 []
nexts_first t = record { size = refl; are = λ dart h. absurd (omega arith); rest = refl }

-- the same for the lists that a loop pushes to
pub nodes_step : (t : Rows) (k : ℕ) (nodes mid more : List ℕ) (s e : ℕ) (edge : EdgeRow) → is_distinct (map (λ e. e.id) t.edges) ≡ true → list_all (λ e. nat_lt 0 e.id) t.edges ≡ true → slice_get t.edges k ≡ Some edge
    → slice_get (map (λ n. n.id) t.nodes) s ≡ Some edge.start → slice_get (map (λ n. n.id) t.nodes) e ≡ Some edge.end
    → no_node (map_of t) edge ≡ None → mid ≡ nodes ++ s ∷ [] → more ≡ mid ++ e ∷ [] → NodesTo t k nodes → NodesTo t (k + 1) more
nodes_step t k nodes mid more s e edge distinct ids at start end fine first second old =
    subst (NodesTo t (k + 1)) (sym (second ∙ ap (λ xs. xs ++ e ∷ []) first)) (nodes_next t k nodes s e edge distinct ids at start end fine old)

pub nodes_done : (t : Rows) (k n : ℕ) (nodes : List ℕ) → n ≡ length t.edges → n ≤ k → k ≤ n → NodesTo t k nodes → AreNodes t.nodes t.edges nodes
nodes_done t k n nodes is ge le all = nodes_all t nodes (subst (λ j. NodesTo t j nodes) (let e : k ≡ length t.edges = omega arith in e) all)

pub nexts_step : (t : Rows) (k : ℕ) (nexts mid more : List ℕ) (l r : ℕ) (edge : EdgeRow) → is_distinct (map (λ e. e.id) t.edges) ≡ true → list_all (λ e. nat_lt 0 e.id) t.edges ≡ true → slice_get t.edges k ≡ Some edge
    → IsDartOf t.edges edge.next_left l → IsDartOf t.edges edge.next_right r
    → no_edge_row (map_of t) edge ≡ None → mid ≡ nexts ++ l ∷ [] → more ≡ mid ++ r ∷ [] → NextsTo t k nexts → NextsTo t (k + 1) more
nexts_step t k nexts mid more l r edge distinct ids at left right fine first second old =
    subst (NextsTo t (k + 1)) (sym (second ∙ ap (λ xs. xs ++ r ∷ []) first)) (nexts_next t k nexts l r edge distinct ids at left right fine old)

pub nexts_done : (t : Rows) (k n : ℕ) (nexts : List ℕ) → n ≡ length t.edges → n ≤ k → k ≤ n → NextsTo t k nexts → AreNexts t.edges nexts
nexts_done t k n nexts is ge le all = nexts_all t nexts (subst (λ j. NextsTo t j nexts) (let e : k ≡ length t.edges = omega arith in e) all)

-- the edge of a dart has a row
edge_of-signed : (edges : List EdgeRow) (dart : ℕ) → edge_of (signed_edge edges dart) ≡ (get_or edges (dart / 2) no_edge).id
edge_of-signed edges dart = elim (cases_eq (dart % 2) 0) [
  | inl e ↦ rw (unwrap_or-slice_get edges (dart / 2) no_edge, eq-eqb (dart % 2) 0 e) refl
  | inr ne ↦ rw (unwrap_or-slice_get edges (dart / 2) no_edge, ne_eqb (dart % 2) 0 ne) (edge_of-neg (get_or edges (dart / 2) no_edge).id)
]

has_dart : (edges : List EdgeRow) (d : ℤ) (dart : ℕ) → IsDartOf edges d dart → has (map (λ e. e.id) edges) (edge_of d) ≡ true
has_dart edges d dart is =
    let within = is.within in
    let id_is : (get_or edges (dart / 2) no_edge).id ≡ edge_of d = sym (edge_of-signed edges dart) ∙ ap edge_of is.is in
    let at : slice_get edges (dart / 2) ≡ Some (get_or edges (dart / 2) no_edge) = slice_get-get_or edges (dart / 2) no_edge (omega arith) in
    any_passes_from_place (λ y. edge_of d == y) (map (λ e. e.id) edges) (dart / 2) (get_or edges (dart / 2) no_edge).id
    (slice_get-map (λ e. e.id) edges (dart / 2) ∙ ap (option_map (λ e. e.id)) at) (eq-eqb (edge_of d) (get_or edges (dart / 2) no_edge).id (sym id_is))

pub dart_has : (edges : List EdgeRow) (passed d : ℤ) (dart : ℕ) → passed ≡ d → IsDartOf edges passed dart → has (map (λ e. e.id) edges) (edge_of d) ≡ true
dart_has edges passed d dart same is = has_dart edges d dart (subst (λ x. IsDartOf edges x dart) same is)

pub next_missing : (edges : List EdgeRow) (passed d : ℤ) → passed ≡ d → has (map (λ e. e.id) edges) (edge_of passed) ≡ false → has (map (λ e. e.id) edges) (edge_of d) ≡ false
next_missing edges passed d same h = subst (λ x. has (map (λ e. e.id) edges) (edge_of x) ≡ false) same h
