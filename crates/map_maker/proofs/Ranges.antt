-- The tables of a grid of at most 1000 rows and columns are in range.
use Rattle.std.specs.Prelude.{map, nat_le, nat_lt, if◌then◌else◌, ◌&&◌, pos, neg_ℤ}
use Rattle.std.specs.List.{range_with_len, list_all}
use Rattle.std.proofs.Common.{◌≡◌, ℕ, zero, suc, ◌+◌, ◌-◌, ◌*◌, ◌<◌, ◌≤◌, Bool, true, false, List, ◌++◌, length, refl, ap, sym, subst, ◌∙◌, arith}
use Rattle.std.proofs.Math.Nat.{mul-le-mul, div-lt_iff_lt-mul}
use Rattle.std.proofs.lemmas.Bool.{le-leb, lt-ltb, and_from}
use Rattle.std.proofs.lemmas.List.Folds.{list_all-append}
use Rattle.std.proofs.lemmas.List.FromFn.{length-map-range_with_len}
use Rattle.std.proofs.Math.ListN.{length-append}
use Rattle.topo_base.specs.SignedEdge.{is_signed_edge}
use Rattle.topo_base.specs.declared.id.TheConstants.{LARGEST_ID}
use Rattle.plane_model.specs.InRange.{is_id, is_face_id, is_none_or, is_edge_in_range, is_in_range}
use Rattle.plane_model.specs.declared.rows.NodeRow.{NodeRow}
use Rattle.plane_model.specs.declared.rows.FaceRow.{FaceRow}
use Rattle.map_maker.specs.declared.direction.Direction.{Direction}
use Rattle.map_maker.specs.declared.direction.Direction.TheVariants.{North, East, South, West}
use Rattle.map_maker.specs.declared.place.Place.{Place}
use Rattle.map_maker.specs.Grid.{north_of, east_of, south_of, west_of, node_id, east_id, north_id, cell_id, leaving, first_after, east_edge, north_edge, closed_edge, grid_node, closed_node, isolated_node, cell, place_of, places, grid_of, closed_count, isolated_count}
use Rattle.map_maker.proofs.Adding.{map-map}

-- a place on rows and columns up to 1001
record IsSmall (p : Place) : Type 0 where
  row : p.row ≤ 1001
  column : p.column ≤ 1001

-- ids
id_in : (x : ℕ) → 1 ≤ x → x ≤ 4000000 → is_id x ≡ true
id_in x a b = and_from _ _ (le-leb 1 x a) (le-leb x LARGEST_ID (omega arith))

face_in : (x : ℕ) → x ≤ 4000000 → is_face_id x ≡ true
face_in x b = le-leb x LARGEST_ID (omega arith)

forward_in : (x : ℕ) → 1 ≤ x → x ≤ 4000000 → is_signed_edge (pos x) ≡ true
forward_in x a b = and_from _ _ (lt-ltb 0 x (omega arith)) (le-leb x LARGEST_ID (omega arith))

backward_in : (x : ℕ) → 1 ≤ x → x ≤ 4000000 → is_signed_edge (neg_ℤ (pos x)) ≡ true
backward_in zero a b = absurd (omega arith)
backward_in (suc k) a b = and_from _ _ (lt-ltb 0 (suc k) (omega arith)) (le-leb (suc k) LARGEST_ID (omega arith))

-- a product of what is small
product : (a b : ℕ) → a ≤ 1001 → b ≤ 1001 → a * b ≤ 1002001
product a b l m = mul-le-mul l m

module _ (n : ℕ) (some : 1 ≤ n) (few : n ≤ 1000) where
  node_in : (p : Place) → IsSmall p → is_id (node_id n p) ≡ true
  node_in p s = let m = product p.row (n + 1) s.row (omega arith) in id_in (node_id n p) (omega arith) (omega (arith, m, s.column))

  east_in : (p : Place) → IsSmall p → is_id (east_id n p) ≡ true
  east_in p s = let m = product p.row n s.row (omega arith) in id_in (east_id n p) (omega arith) (omega (arith, m, s.column))

  north_in : (p : Place) → IsSmall p → is_id (north_id n p) ≡ true
  north_in p s =
      let m = product p.row (n + 1) s.row (omega arith) in
      let k = product n (n + 1) (omega arith) (omega arith) in
      id_in (north_id n p) (omega arith) (omega (arith, m, k, s.column))

  cell_in : (p : Place) → IsSmall p → is_face_id (cell_id n p) ≡ true
  cell_in p s = let m = product p.row n s.row (omega arith) in face_in (cell_id n p) (omega (arith, m, s.column))

  south_small : (p : Place) → IsSmall p → IsSmall (south_of p)
  south_small p s = record { row = (let h = s.row in omega arith); column = s.column }

  west_small : (p : Place) → IsSmall p → IsSmall (west_of p)
  west_small p s = record { row = s.row; column = (let h = s.column in omega arith) }

  leaving_in : (p : Place) (d : Direction) → IsSmall p → is_signed_edge (leaving n p d) ≡ true
  leaving_in p North s =
      let m = product p.row (n + 1) s.row (omega arith) in
      let k = product n (n + 1) (omega arith) (omega arith) in
      forward_in (north_id n p) (omega arith) (omega (arith, m, k, s.column))
  leaving_in p East s = let m = product p.row n s.row (omega arith) in forward_in (east_id n p) (omega arith) (omega (arith, m, s.column))
  leaving_in p South s =
      let t = south_small p s in
      let m = product (p.row - 1) (n + 1) t.row (omega arith) in
      let k = product n (n + 1) (omega arith) (omega arith) in
      backward_in (north_id n (south_of p)) (omega arith) (omega (arith, m, k, s.column))
  leaving_in p West s =
      let t = west_small p s in
      let m = product p.row n s.row (omega arith) in
      backward_in (east_id n (west_of p)) (omega arith) (omega (arith, m, t.column))

  side_in : (b : Bool) (p : Place) → IsSmall p → is_face_id (if b then cell_id n p else 0) ≡ true
  side_in true p s = cell_in p s
  side_in false p s = refl

  -- rows
  joined : (a b c d e f g : Bool) → a ≡ true → b ≡ true → c ≡ true → d ≡ true → e ≡ true → f ≡ true → g ≡ true → (a && b && c && d && e && f && g) ≡ true
  joined a b c d e f g ha hb hc hd he hf hg = rw (ha, hb, hc, hd, he, hf, hg) refl

  east_edge_in : (p : Place) → p.row ≤ n → p.column < n → is_edge_in_range (east_edge n p) ≡ true
  east_edge_in p l m =
      let s : IsSmall p = record { row = omega arith; column = omega arith } in
      let t : IsSmall (east_of p) = record { row = omega arith; column = omega arith } in
      joined _ _ _ _ _ _ _ (east_in p s) (node_in p s) (node_in (east_of p) t)
      (leaving_in (east_of p) (first_after n (east_of p) West) t) (leaving_in p (first_after n p East) s)
      (side_in (nat_lt p.row n) p s) (side_in (nat_lt 0 p.row) (south_of p) (south_small p s))

  north_edge_in : (p : Place) → p.row < n → p.column ≤ n → is_edge_in_range (north_edge n p) ≡ true
  north_edge_in p l m =
      let s : IsSmall p = record { row = omega arith; column = omega arith } in
      let t : IsSmall (north_of p) = record { row = omega arith; column = omega arith } in
      joined _ _ _ _ _ _ _ (north_in p s) (node_in p s) (node_in (north_of p) t)
      (leaving_in (north_of p) (first_after n (north_of p) South) t) (leaving_in p (first_after n p North) s)
      (side_in (nat_lt 0 p.column) (west_of p) (west_small p s)) (side_in (nat_lt p.column n) p s)

  -- how many there are at most
  square : n * n ≤ 1002001
  square = product n n (omega arith) (omega arith)

  oblong : n * (n + 1) ≤ 1002001
  oblong = product n (n + 1) (omega arith) (omega arith)

  wider : (n + 1) * (n + 1) ≤ 1002001
  wider = product (n + 1) (n + 1) (omega arith) (omega arith)

  doubled : 2 * n * (n + 1) ≤ 2002000
  doubled = let a : 2 * n ≤ 2000 = omega arith in let b : n + 1 ≤ 1001 = omega arith in mul-le-mul a b

  closed_in : (q : ℕ) → 1 ≤ q → q ≤ closed_count n → is_edge_in_range (closed_edge n q) ≡ true
  closed_in q a b =
      let s = square in let w = wider in let d = doubled in
      let id = 2 * n * (n + 1) + q in
      let node = (n + 1) * (n + 1) + q in
      let i = id_in id (omega arith) (omega (arith, d, s)) in
      let v = id_in node (omega arith) (omega (arith, w, s)) in
      joined _ _ _ _ _ _ _ i v v (forward_in id (omega arith) (omega (arith, d, s))) (backward_in id (omega arith) (omega (arith, d, s)))
      (face_in (n * n + q) (omega (arith, s))) (face_in (7 * q) (omega (arith, s)))

-- all rows that are made of the numbers of a range
all_made : {R : Type 0} (test : R → Bool) (row : ℕ → R) (a k : ℕ) → ((i : ℕ) → a ≤ i → i < a + k → test (row i) ≡ true) → list_all test (map row (range_with_len a k)) ≡ true
all_made test row a zero each = refl
all_made test row a (suc k) each = and_from _ _ (each a (omega arith) (omega arith)) (all_made test row (a + 1) k (λ i l h. each i (omega arith) (omega arith)))

-- and of the places of a grid
all_placed : {R : Type 0} (test : R → Bool) (row : Place → R) (rows columns : ℕ) → 1 ≤ columns → ((p : Place) → p.row < rows → p.column < columns → test (row p) ≡ true) → list_all test (map row (places rows columns)) ≡ true
all_placed test row rows columns some each =
    subst (λ xs. list_all test xs ≡ true) (sym (map-map row (place_of columns) (range_with_len 0 (rows * columns))))
    (all_made test (λ i. row (place_of columns i)) 0 (rows * columns)
    (λ i l h. each (place_of columns i) ((div-lt_iff_lt-mul {k = columns} {x = i} {y = rows} (omega arith)).1 (omega arith)) (omega arith)))

both : {R : Type 0} (test : R → Bool) (xs ys : List R) → list_all test xs ≡ true → list_all test ys ≡ true → list_all test (xs ++ ys) ≡ true
both test xs ys a b = list_all-append test xs ys ∙ and_from _ _ a b

made_len : {R : Type 0} (row : Place → R) (rows columns : ℕ) → length (map row (places rows columns)) ≡ rows * columns
made_len row rows columns = ap length (map-map row (place_of columns) (range_with_len 0 (rows * columns))) ∙ length-map-range_with_len (λ i. row (place_of columns i)) 0 (rows * columns)

three : {R : Type 0} (xs ys zs : List R) (a b c : ℕ) → length xs ≡ a → length ys ≡ b → length zs ≡ c → a + b + c ≤ 16777216 → nat_le (length (xs ++ ys ++ zs)) 16777216 ≡ true
three xs ys zs a b c la lb lc few =
    let e = length-append (xs ++ ys) zs in
    let f = length-append xs ys in
    le-leb (length (xs ++ ys ++ zs)) 16777216 (omega (arith, e, f))

pub grid_in_range : (n : ℕ) → 1 ≤ n → n ≤ 1000 → is_in_range (grid_of n) ≡ true
grid_in_range n some few =
    let s = square n some few in let o = oblong n some few in let w = wider n some few in
    let narrow : (n + 1) * n ≤ 1002001 = product (n + 1) n (omega arith) (omega arith) in
    let node = λ (r : NodeRow). is_id r.id && is_none_or is_face_id r.face in
    let face = λ (r : FaceRow). is_face_id r.id in
    let joined = map (grid_node n) (places (n + 1) (n + 1)) in
    let closed = map (closed_node n) (range_with_len 1 (closed_count n)) in
    let alone = map (isolated_node n) (range_with_len 1 (isolated_count n)) in
    let east = map (east_edge n) (places (n + 1) n) in
    let north = map (north_edge n) (places n (n + 1)) in
    let rings = map (closed_edge n) (range_with_len 1 (closed_count n)) in
    let nodes : list_all node (joined ++ closed ++ alone) ≡ true =
    both node (joined ++ closed) alone
    (both node joined closed
    (all_placed node (grid_node n) (n + 1) (n + 1) (omega arith) (λ p l m. and_from _ _ (node_in n some few p (record { row = omega arith; column = omega arith })) refl))
    (all_made node (closed_node n) 1 (closed_count n) (λ q l m. and_from _ _ (id_in ((n + 1) * (n + 1) + q) (omega arith) (omega (arith, w, s))) refl)))
    (all_made node (isolated_node n) 1 (isolated_count n) (λ q l m. and_from _ _ (id_in ((n + 1) * (n + 1) + closed_count n + q) (omega arith) (omega (arith, w, s))) (face_in (11 * q) (omega (arith, s))))) in
    let edges : list_all is_edge_in_range (east ++ north ++ rings) ≡ true =
    both is_edge_in_range (east ++ north) rings
    (both is_edge_in_range east north
    (all_placed is_edge_in_range (east_edge n) (n + 1) n some (λ p l m. east_edge_in n some few p (omega arith) m))
    (all_placed is_edge_in_range (north_edge n) n (n + 1) (omega arith) (λ p l m. north_edge_in n some few p l (omega arith))))
    (all_made is_edge_in_range (closed_edge n) 1 (closed_count n) (λ q l m. closed_in n some few q l (omega arith))) in
    let faces : list_all face (map cell (range_with_len 1 (n * n + closed_count n))) ≡ true =
    all_made face cell 1 (n * n + closed_count n) (λ f l m. face_in f (omega (arith, s))) in
    let nodes_few = three joined closed alone ((n + 1) * (n + 1)) (closed_count n) (isolated_count n) (made_len (grid_node n) (n + 1) (n + 1))
    (length-map-range_with_len (closed_node n) 1 (closed_count n)) (length-map-range_with_len (isolated_node n) 1 (isolated_count n)) (omega (arith, w, s)) in
    let edges_few = three east north rings ((n + 1) * n) (n * (n + 1)) (closed_count n) (made_len (east_edge n) (n + 1) n)
    (made_len (north_edge n) n (n + 1)) (length-map-range_with_len (closed_edge n) 1 (closed_count n)) (omega (arith, o, narrow, s)) in
    let faces_len = length-map-range_with_len cell 1 (n * n + closed_count n) in
    let faces_few = le-leb (length (map cell (range_with_len 1 (n * n + closed_count n)))) 16777216 (omega (arith, faces_len, s)) in
    and_from _ _ (and_from _ _ (and_from _ _ (and_from _ _ (and_from _ _ (and_from _ _ (and_from _ _ (and_from _ _ (and_from _ _ nodes edges) faces) refl) refl) nodes_few) edges_few) faces_few) refl) refl
