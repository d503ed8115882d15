-- The map of whole contents, position by position.
use Rattle.std.specs.Prelude.{ℤ, pos, neg_ℤ, not, find, map, unwrap_or, slice_index, slice_index_or, if◌then◌else◌}
use Rattle.std.proofs.Common.{◌≡◌, ℕ, zero, suc, ◌*◌, ◌<◌, inl, inr, Bool, true, false, List, [], ◌∷◌, length, refl, ap, sym, ◌∙◌, arith, subst, Some, ◌==◌}
use Rattle.std.proofs.lemmas.Bool.{cases_Bool, eqb-true, eq-eqb, both_ways, or_cases}
use Rattle.topo_base.specs.SignedEdge.{edge_of as edge_id, is_forward, reverse}
use Rattle.plane_model.specs.declared.rows.EdgeRow.{EdgeRow}
use Rattle.plane_model.specs.Sets.{rising, has}
use Rattle.plane_model.specs.PlaneMap.{map_of, row_of, origin, side, next as next_edge}
use Rattle.plane_model.proofs.Lookups.{edge_of-neg, is_backward}
use Rattle.plane_model.proofs.Sorting.{rising-has}
use Rattle.bit_words.specs.Bits.{same}
use Rattle.file_laws.proofs.Lists.{has-index}
use Rattle.code_laws.specs.Code.{is_first, mate, next}
use Rattle.code_laws.specs.Numbers.{edge_of, first_of_edge}
use Rattle.code_laws.specs.Laws.{MateLaws}
use Rattle.code_laws.proofs.Sound.{SoundParts}
use Rattle.code_laws.proofs.Edges.{laws, first_edge, edge_within}
use Rattle.id_names.specs.Names.{number_of}
use Rattle.file_laws.specs.Contents.{Contents}
use Rattle.file_laws.specs.MapOfFile.{signed_at, node_at, face_at, is_forward_at, forward_position, edge_row, rows_of_contents}

same-not : (a b : Bool) → same (not a) b ≡ not (same a b)
same-not true b = refl
same-not false true = refl
same-not false false = refl

neg-neg : (n : ℕ) → neg_ℤ (neg_ℤ (pos n)) ≡ pos n
neg-neg zero = refl
neg-neg (suc n) = refl

-- a signed edge by its id and its direction
abbrev pub signed : Bool → ℕ → ℤ
signed forward id = if forward then pos id else neg_ℤ (pos id)

signed-not : (b : Bool) (id : ℕ) → signed (not b) id ≡ reverse (signed b id)
signed-not true id = refl
signed-not false id = sym (neg-neg id)

pub signed-id : (b : Bool) (id : ℕ) → edge_id (signed b id) ≡ id
signed-id true id = refl
signed-id false id = edge_of-neg id

signed-forward : (b : Bool) (id : ℕ) → 0 < id → is_forward (signed b id) ≡ b
signed-forward true id h = refl
signed-forward false id h = is_backward id h

pub has-rising : (x : ℕ) (xs : List ℕ) → has xs x ≡ true → has (rising xs) x ≡ true
has-rising x xs h = rising-has xs x ∙ h

-- the row of an id, among rows made from ids
pub row_found : {R : Type 0} (key : R → ℕ) (row : ℕ → R) (keeps : (x : ℕ) → key (row x) ≡ x) (ids : List ℕ) (x : ℕ) → has ids x ≡ true → find (λ r. key r == x) (map row ids) ≡ Some (row x)
row_found key row keeps [] x h = cc
row_found key row keeps (y ∷ ids) x h =
    elim (cases_Bool (x == y)) [
      | inl w ↦
          let e : x ≡ y = eqb-true x y w in
          let t : (key (row y) == x) ≡ true = eq-eqb _ _ (keeps y ∙ sym e) in
          rw t (ap (λ z. Some (row z)) (sym e))
      | inr f ↦
          let t : (key (row y) == x) ≡ false = rw (keeps y) (other x y f) in
          let m : has ids x ≡ true = elim (or_cases (x == y) (has ids x) h) [ inl w ↦ absurd (both_ways _ f w) | inr m ↦ m ] in
          rw t (row_found key row keeps ids x m)
    ]
  where
    other : (x y : ℕ) → (x == y) ≡ false → (y == x) ≡ false
    other x y f = elim (cases_Bool (y == x)) [ inl w ↦ absurd (both_ways _ f (eq-eqb x y (sym (eqb-true y x w)))) | inr g ↦ g ]

-- what is asked of the ids of edges and of the code
pub record IsSeen (c : Contents) : Type 0 where
  pub sound : SoundParts c.code
  pub sizes : length c.code.a ≡ 2 * length c.edges
  -- each edge number is the one that its id has, and ids begin with 1
  pub back : (e : ℕ) → e < length c.edges → number_of c.edges (slice_index c.edges e) ≡ Some e
  pub least : (e : ℕ) → e < length c.edges → 0 < slice_index c.edges e

module _ (c : Contents) (w : IsSeen c) (p : ℕ) (l : p < length c.code.a) where
  abbrev e : ℕ
  e = edge_of c.code p

  pub e_in : e < length c.edges
  e_in = let h = edge_within c.code w.sound p l in omega (arith, h, w.sizes)

  pub law : MateLaws c.code p
  law = laws c.code w.sound p l

  pub forward_mate : is_forward_at c (mate c.code p) ≡ not (is_forward_at c p)
  forward_mate = let k = law in rw (k.first, k.edge) (same-not (is_first c.code p) (slice_index_or c.forward (edge_of c.code p) false))

  -- the mate is the same edge the other way
  pub reversed : signed_at c (mate c.code p) ≡ reverse (signed_at c p)
  unfolding signed_at
  reversed = let k = law in rw (forward_mate, k.edge) (signed-not (is_forward_at c p) (slice_index c.edges (edge_of c.code p)))

  -- the position of the edge's forward signed edge
  at_first : is_first c.code p ≡ true → forward_position c e ≡ (if is_forward_at c p then p else mate c.code p)
  unfolding forward_position
  at_first f = rw (first_edge c.code w.sound p l f) (rw f refl)

  at_second : is_first c.code p ≡ false → forward_position c e ≡ (if is_forward_at c p then p else mate c.code p)
  unfolding forward_position
  at_second f =
      let k = law in
      let x : first_of_edge c.code (edge_of c.code (mate c.code p)) ≡ Some (mate c.code p) = first_edge c.code w.sound (mate c.code p) k.within (k.first ∙ ap not f) in
      let y : first_of_edge c.code (edge_of c.code p) ≡ Some (mate c.code p) = subst (λ n. first_of_edge c.code n ≡ Some (mate c.code p)) k.edge x in
      let back = k.back in
      rw y (rw f (at_bit (slice_index_or c.forward (edge_of c.code p) false) back))
    where
      at_bit : (b : Bool) → mate c.code (mate c.code p) ≡ p → (if b then mate c.code p else mate c.code (mate c.code p)) ≡ (if not b then p else mate c.code p)
      at_bit true h = refl
      at_bit false h = h

  pub forward_at : forward_position c e ≡ (if is_forward_at c p then p else mate c.code p)
  forward_at = elim (cases_Bool (is_first c.code p)) [ inl f ↦ at_first f | inr f ↦ at_second f ]

  -- the row of the edge
  pub edge_found : row_of (map_of (rows_of_contents c)) (signed_at c p) ≡ edge_row c (slice_index c.edges e) e
  unfolding signed_at
  edge_found =
      let id = slice_index c.edges e in
      let i : edge_id (signed (is_forward_at c p) id) ≡ id = signed-id (is_forward_at c p) id in
      let h = has-rising id c.edges (has-index c.edges e e_in) in
      let f : find (λ r. r.id == id) (map (λ id. edge_row c id (unwrap_or (number_of c.edges id) 0)) (rising c.edges)) ≡ Some (edge_row c id (unwrap_or (number_of c.edges id) 0))
      = row_found (λ (r : EdgeRow). r.id) (λ id. edge_row c id (unwrap_or (number_of c.edges id) 0)) (λ x. refl) (rising c.edges) id h in
      rw i (rw f (ap (λ o. edge_row c id (unwrap_or o 0)) (w.back e e_in)))

  pub forward_is : is_forward (signed_at c p) ≡ is_forward_at c p
  unfolding signed_at
  forward_is = signed-forward (is_forward_at c p) (slice_index c.edges e) (w.least e e_in)

  -- whatever a row says of its forward position and of that one's mate, it says of p and of its own
  by_direction : {X : Type 0} (f : ℕ → X) → (if is_forward_at c p then f (forward_position c e) else f (mate c.code (forward_position c e))) ≡ f p
  by_direction {X = X} f = rw forward_at (at (is_forward_at c p) law.back)
    where
      at : (b : Bool) → mate c.code (mate c.code p) ≡ p → (if b then f (if b then p else mate c.code p) else f (mate c.code (if b then p else mate c.code p))) ≡ f p
      at true h = refl
      at false h = ap f h

  pub origins : origin (map_of (rows_of_contents c)) (signed_at c p) ≡ node_at c p
  origins = rw (edge_found, forward_is) (by_direction (node_at c))

  pub sides : side (map_of (rows_of_contents c)) (signed_at c p) ≡ face_at c p
  sides = rw (edge_found, forward_is) (by_direction (face_at c))

  pub nexts : next_edge (map_of (rows_of_contents c)) (signed_at c p) ≡ signed_at c (next c.code p)
  nexts = rw (edge_found, forward_is) (by_direction (λ x. signed_at c (next c.code x)))
