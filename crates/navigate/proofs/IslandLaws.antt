-- What lies in a face, by the order of the file.
use Rattle.std.specs.Prelude.{ℤ, map, filter, slice_index, nat_lt}
use Rattle.std.specs.List.{range_with_len, list_all}
use Rattle.std.proofs.Common.{◌≡◌, ℕ, zero, suc, ◌+◌, ◌-◌, ◌*◌, ◌<◌, ◌≤◌, inl, inr, Bool, true, false, List, [], ◌∷◌, ◌++◌, length, refl, ap, sym, ◌∙◌, arith, subst, Some, None, ◌==◌}
use Rattle.std.proofs.lemmas.Bool.{cases_lt, and_from, and_parts, eqb-true, eq-eqb, le-ltb, lt-ltb, or_left, or_right, or_cases, both_ways}
use Rattle.orbits.proofs.Lists.{same_tests, from_filter, in_filter}
use Rattle.orbits.proofs.Numbers.{same_numbers}
use Rattle.topo_base.specs.Script.{Item}
use Rattle.plane_model.specs.Sets.{has}
use Rattle.plane_model.specs.Orders.{is_strictly_rising}
use Rattle.plane_model.specs.PlaneMap.{PlaneMap}
use Rattle.plane_model.specs.Rotation.{node_face}
use Rattle.plane_model.specs.Lists.{holes, isolated_nodes, is_in_face}
use Rattle.code_laws.specs.Code.{start_of}
use Rattle.file_laws.specs.Contents.{Contents}
use Rattle.file_laws.specs.MapOfFile.{signed_at, face_at_place, joined_count}
use Rattle.file_laws.specs.Faults.{isolated_id}
use Rattle.file_laws.specs.Lawful.{is_whole}
use Rattle.navigate.specs.Bound.{map_with, line_digits, line_words}
use Rattle.navigate.specs.IslandWalk.{contents_in, hole_edges, nodes_between, items_between, rest, price, allowance}
use Rattle.navigate.specs.declared.inside.IslandWalk.{IslandWalk}
use Rattle.plane_model.specs.declared.rows.NodeRow.{NodeRow}
use Rattle.plane_model.specs.Rows.{Rows}
use Rattle.plane_model.specs.Sets.{is_distinct}
use Rattle.plane_model.proofs.Sorting.{rising_strictly, same_strictly}
use Rattle.file_laws.specs.MapOfFile.{rows_of_contents}
use Rattle.file_laws.proofs.Consistent.{rotation_of}
use Rattle.file_laws.proofs.Rotation.{face_of, node_key, node_keys_from}
use Rattle.navigate.proofs.Facts.{w}
use Rattle.navigate.proofs.OrbitLengths.{some_digits}
use Rattle.navigate.proofs.PriceLaws.{items_fit}
use Rattle.pemb_file.proofs.PlaceLaws.{ids_rise}
use Rattle.navigate.proofs.HoleLaws.{AreAt, in_order, one_place, holes_at}
use Rattle.navigate.proofs.FaceLaws.{between-next, between-none}

pub rest-is : (w : IslandWalk) → rest w ≡ items_between (contents_in w) w.hole w.end w.node w.last
unfolding rest
rest-is w = refl

-- the next component
pub hole_first : (c : Contents) (hole end node last : ℕ) (d : ℤ) → hole < end → end ≤ length c.place_order → d ≡ signed_at c (start_of c.code (slice_index c.place_order hole))
    → items_between c hole end node last ≡ Item.Signed_edge d ∷ items_between c (hole + 1) end node last
hole_first c hole end node last d l within e =
    ap (λ js. map Item.Signed_edge (hole_edges c js) ++ map Item.Island_node (nodes_between c node last)) (between-next c hole end l within)
    ∙ ap (λ x. Item.Signed_edge x ∷ items_between c (hole + 1) end node last) (sym e)

-- the next node, where no component is left
pub node_first : (c : Contents) (hole end node last n : ℕ) → end ≤ hole → node < last → n ≡ isolated_id c node
    → items_between c hole end node last ≡ Item.Island_node n ∷ items_between c hole end (node + 1) last
node_first c hole end node last n over l e =
    let none = between-none c hole end over in
    let one : last - node ≡ suc (last - (node + 1)) = omega (arith, l) in
    let nodes : nodes_between c node last ≡ isolated_id c node ∷ nodes_between c (node + 1) last = ap (λ k. map (isolated_id c) (range_with_len node k)) one in
    ap (λ js. map Item.Signed_edge (hole_edges c js) ++ map Item.Island_node (nodes_between c node last)) none
    ∙ ap (map Item.Island_node) nodes ∙ ap (λ x. Item.Island_node x ∷ map Item.Island_node (nodes_between c (node + 1) last)) (sym e)
    ∙ ap (λ js. Item.Island_node n ∷ (map Item.Signed_edge (hole_edges c js) ++ map Item.Island_node (nodes_between c (node + 1) last))) (sym none)

pub none_left : (c : Contents) (hole end node last : ℕ) → end ≤ hole → last ≤ node → items_between c hole end node last ≡ []
none_left c hole end node last over out =
    let none = between-none c hole end over in
    let zero_left : last - node ≡ 0 = omega (arith, out) in
    ap (λ js. map Item.Signed_edge (hole_edges c js) ++ map Item.Island_node (nodes_between c node last)) none
    ∙ ap (λ k. map Item.Island_node (map (isolated_id c) (range_with_len node k))) zero_left

pub island_paid : (c : Contents) (xs ys : List Item) (x : Item) (first last : ℕ) → xs ≡ x ∷ ys → last ≤ first + price c → last + price c * length ys ≤ first + price c * length xs
island_paid c xs ys x first last e h =
    let more : price c * suc (length ys) ≡ price c * length ys + price c = omega arith in
    let l : price c * length xs ≡ price c * length ys + price c = ap (λ zs. price c * length zs) e ∙ more in
    omega (arith, l, h)

-- the isolated nodes of a place
pub record AreNodesAt (c : Contents) (place node last : ℕ) : Type 0 where
  pub within : last ≤ length c.isolated
  pub before_from : (i : ℕ) → i < node → slice_index c.isolated i < place
  pub from_from : (i : ℕ) → node ≤ i → i < length c.isolated → place ≤ slice_index c.isolated i
  pub before_to : (i : ℕ) → i < last → slice_index c.isolated i < place + 1
  pub from_to : (i : ℕ) → last ≤ i → i < length c.isolated → place + 1 ≤ slice_index c.isolated i

all_above : (f : ℕ → ℕ) (d low n : ℕ) → ((j : ℕ) → low ≤ j → j < low + n → d < f j) → list_all (nat_lt d) (map f (range_with_len low n)) ≡ true
all_above f d low zero h = refl
all_above f d low (suc n) h = and_from (nat_lt d (f low)) (list_all (nat_lt d) (map f (range_with_len (low + 1) n))) (lt-ltb d (f low) (h low (omega arith) (omega arith))) (all_above f d (low + 1) n (λ j a b. h j (omega (arith, a)) (omega (arith, b))))

range_strictly : (f : ℕ → ℕ) (low n : ℕ) → ((i j : ℕ) → low ≤ i → i < j → j < low + n → f i < f j) → is_strictly_rising (map f (range_with_len low n)) ≡ true
range_strictly f low zero h = refl
range_strictly f low (suc n) h =
    and_from (list_all (nat_lt (f low)) (map f (range_with_len (low + 1) n))) (is_strictly_rising (map f (range_with_len (low + 1) n)))
    (all_above f (f low) (low + 1) n (λ j a b. h low j (omega arith) (omega (arith, a)) (omega (arith, b))))
    (range_strictly f (low + 1) n (λ i j a b d. h i j (omega (arith, a)) b (omega (arith, d))))

filter_all : (t s : ℕ → Bool) (xs : List ℕ) → list_all s xs ≡ true → list_all s (filter t xs) ≡ true
filter_all t s [] h = refl
filter_all t s (x ∷ xs) h =
    let p = and_parts (s x) (list_all s xs) h in
    elim (Rattle.std.proofs.lemmas.Bool.cases_Bool (t x)) [
      | inl y ↦ rw y (and_from (s x) (list_all s (filter t xs)) p.0 (filter_all t s xs p.1))
      | inr n ↦ rw n (filter_all t s xs p.1)
    ]

strictly_filter : (t : ℕ → Bool) (xs : List ℕ) → is_strictly_rising xs ≡ true → is_strictly_rising (filter t xs) ≡ true
strictly_filter t [] h = refl
strictly_filter t (x ∷ xs) h =
    let p = and_parts (list_all (nat_lt x) xs) (is_strictly_rising xs) h in
    elim (Rattle.std.proofs.lemmas.Bool.cases_Bool (t x)) [
      | inl y ↦ rw y (and_from (list_all (nat_lt x) (filter t xs)) (is_strictly_rising (filter t xs)) (filter_all t (nat_lt x) xs p.0) (strictly_filter t xs p.1))
      | inr n ↦ rw n (strictly_filter t xs p.1)
    ]

range_has : (f : ℕ → ℕ) (low n i : ℕ) → low ≤ i → i < low + n → has (map f (range_with_len low n)) (f i) ≡ true
range_has f low zero i a b = absurd (omega (arith, a, b))
range_has f low (suc n) i a b =
    elim (cases_lt low i) [
      | inl l ↦ or_right (f i == f low) (has (map f (range_with_len (low + 1) n)) (f i)) (range_has f (low + 1) n i (omega (arith, l)) (omega (arith, b)))
      | inr g ↦ or_left (f i == f low) (has (map f (range_with_len (low + 1) n)) (f i)) (eq-eqb (f i) (f low) (ap f (omega (arith, a, g))))
    ]

has_range : (f : ℕ → ℕ) (low n x : ℕ) → has (map f (range_with_len low n)) x ≡ true → (i : ℕ) × (low ≤ i) × (i < low + n) × (f i ≡ x)
has_range f low zero x h = cc
has_range f low (suc n) x h =
    elim (or_cases (x == f low) (has (map f (range_with_len (low + 1) n)) x) h) [
      | inl e ↦ (low, omega arith, omega arith, sym (eqb-true x (f low) e))
      | inr m ↦ let r = has_range f (low + 1) n x m in (r.0, omega (arith, r.1), omega (arith, r.2), r.3)
    ]

nodes_distinct : (t : Rows) → Rattle.plane_model.specs.Rotation.is_rotation_system t ≡ true → is_distinct (map (λ (r : NodeRow). r.id) t.nodes) ≡ true
nodes_distinct t h = (and_parts _ _ (and_parts _ _ (and_parts _ _ (and_parts _ _ h).0).0).0).0

module _ (c : Contents) (h : is_whole c ≡ true) where
  abbrev m : PlaneMap
  m = map_with c

  keys_rise : is_strictly_rising m.nodes.keys ≡ true
  keys_rise = rising_strictly (map (λ (r : NodeRow). r.id) (rows_of_contents c).nodes) (nodes_distinct (rows_of_contents c) (rotation_of c h))

  node_in_face : (x f : ℕ) → joined_count c ≤ x → x < length c.nodes → is_in_face f (node_face m (slice_index c.nodes x)) ≡ (face_at_place c (slice_index c.isolated (x - joined_count c)) == f)
  node_in_face x f g l = let test = le-ltb x (joined_count c) g in
      let e : node_face m (slice_index c.nodes x) ≡ Some (face_at_place c (slice_index c.isolated (x - joined_count c))) = face_of c (w c h) x l ∙ rw test refl in
      ap (is_in_face f) e

  not_in_face : (x f : ℕ) → x < joined_count c → x < length c.nodes → is_in_face f (node_face m (slice_index c.nodes x)) ≡ false
  not_in_face x f k l = let test = lt-ltb x (joined_count c) k in
      let e : node_face m (slice_index c.nodes x) ≡ None = face_of c (w c h) x l ∙ rw test refl in
      ap (is_in_face f) e

  pub nodes_at : (place node n : ℕ) → place ≤ length c.faces → AreNodesAt c place node (node + n) → map (isolated_id c) (range_with_len node n) ≡ isolated_nodes m (face_at_place c place)
  nodes_at place node n l at =
      let f = face_at_place c place in
      let test : ℕ → Bool = λ n. is_in_face f (node_face m n) in
      let s = (w c h).sizes.nodes in
      same_strictly (map (isolated_id c) (range_with_len node n)) (isolated_nodes m f)
      (range_strictly (isolated_id c) node n (λ i j x y z.
      let b1 = at.before_to i (omega (arith, y, z)) in
      let b2 = at.before_to j z in
      let f1 = at.from_from i x (omega (arith, y, z, at.within)) in
      let f2 = at.from_from j (omega (arith, x, y)) (omega (arith, z, at.within)) in
      ids_rise c h i j y (omega (arith, z, at.within)) (omega (arith, b1, b2, f1, f2))))
      (strictly_filter test m.nodes.keys keys_rise)
      (λ x. same_tests (has (map (isolated_id c) (range_with_len node n)) x) (has (isolated_nodes m f) x)
      (λ there.
      let i = has_range (isolated_id c) node n x there in
      let i_in : i.0 < length c.isolated = omega (arith, i.2, at.within) in
      let b = at.before_to i.0 i.2 in
      let g = at.from_from i.0 i.1 i_in in
      let y = joined_count c + i.0 in
      let y_in : y < length c.nodes = omega (arith, i_in, s) in
      let back : y - joined_count c ≡ i.0 = omega arith in
      let at_i : slice_index c.isolated (y - joined_count c) ≡ place = ap (slice_index c.isolated) back ∙ omega (arith, b, g) in
      let passes : test (slice_index c.nodes y) ≡ true = node_in_face y f (omega arith) y_in ∙ eq-eqb (face_at_place c (slice_index c.isolated (y - joined_count c))) f (ap (face_at_place c) at_i) in
      subst (λ z. has (isolated_nodes m f) z ≡ true) i.3 (in_filter same_numbers test m.nodes.keys (slice_index c.nodes y) passes (node_key c (w c h) y y_in)))
      (λ there.
      let parts = from_filter same_numbers test m.nodes.keys x there in
      let y = node_keys_from c (w c h) x parts.1 in
      let here : test (slice_index c.nodes y.0) ≡ true = subst (λ z. test z ≡ true) (sym y.2) parts.0 in
      let low : joined_count c ≤ y.0 = elim (cases_lt y.0 (joined_count c)) [ inl k ↦ absurd (both_ways _ (not_in_face y.0 f k y.1) here) | inr g ↦ g ] in
      let i = y.0 - joined_count c in
      let i_in : i < length c.isolated = omega (arith, y.1, low, s) in
      let face = eqb-true (face_at_place c (slice_index c.isolated i)) f (sym (node_in_face y.0 f low y.1) ∙ here) in
      let p = one_place c h (slice_index c.isolated i) place ((w c h).isolated i i_in) l face in
      let above : node ≤ i = elim (cases_lt i node) [ inl b ↦ (let z = at.before_from i b in absurd (omega (arith, z, p))) | inr g ↦ g ] in
      let below : i < node + n = elim (cases_lt i (node + n)) [ inl b ↦ b | inr g ↦ (let z = at.from_to i g i_in in absurd (omega (arith, z, p))) ] in
      let same : joined_count c + i ≡ y.0 = omega (arith, low) in
      subst (λ z. has (map (isolated_id c) (range_with_len node n)) z ≡ true) (ap (slice_index c.nodes) same ∙ y.2) (range_has (isolated_id c) node n i above below)))

  pub nodes_listed : (place node last : ℕ) → place ≤ length c.faces → node ≤ length c.isolated → AreNodesAt c place node last → nodes_between c node last ≡ isolated_nodes m (face_at_place c place)
  nodes_listed place node last l k at =
      let up : node ≤ last = elim (cases_lt last node) [
        | inl b ↦ (let x = at.before_from last b in let y = at.from_to last (omega arith) (omega (arith, b, k)) in absurd (omega (arith, x, y)))
        | inr g ↦ g
      ] in
      let e : node + (last - node) ≡ last = omega (arith, up) in
      nodes_at place node (last - node) l (subst (AreNodesAt c place node) (sym e) at)

  pub islands_listed : (place hole end node last : ℕ) → place ≤ length c.faces → hole ≤ length c.place_order → node ≤ length c.isolated → AreAt c place hole end → AreNodesAt c place node last
      → items_between c hole end node last ≡ map Item.Signed_edge (holes m (face_at_place c place)) ++ map Item.Island_node (isolated_nodes m (face_at_place c place))
  islands_listed place hole end node last l k j at nodes =
      ap (λ xs. map Item.Signed_edge xs ++ map Item.Island_node (nodes_between c node last)) (holes_at c h place hole end l (in_order c place hole end k at) at)
      ∙ ap (λ xs. map Item.Signed_edge (holes m (face_at_place c place)) ++ map Item.Island_node xs) (nodes_listed place node last l j nodes)

-- what making the walk and walking read fits
pub islands_fit : (c : Contents) (v : IslandWalk) (first last : ℕ) → contents_in v ≡ c → last ≤ first + (28 * line_digits c + 60) → last + allowance v ≤ first + line_words c 0 (length (rest v))
unfolding allowance
islands_fit c v first last same h =
    let each : price (contents_in v) ≡ price c = ap (λ x. price x) same in
    let two = some_digits c in
    items_fit c (price (contents_in v)) (length (rest v)) first last (omega (arith, each, two)) h
