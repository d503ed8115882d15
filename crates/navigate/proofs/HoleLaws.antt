-- The holes and the shell of a face, by positions.
use Rattle.std.specs.Prelude.{ℤ, not, map, flat_map, slice_index, if◌then◌else◌, ◌&&◌}
use Rattle.std.specs.List.{range_with_len, list_all, list_any, AllByRecursion}
use Rattle.std.proofs.Common.{◌≡◌, ℕ, zero, suc, ◌+◌, ◌-◌, ◌<◌, ◌≤◌, inl, inr, Bool, true, false, eqb, List, [], ◌∷◌, ◌++◌, length, get_or, refl, ap, sym, ◌∙◌, arith, subst, Some, ◌==◌}
use Rattle.std.proofs.lemmas.Bool.{cases_Bool, cases_lt, cases_eq, cases_order, or_cases, or_parts, and_parts, and_from, eqb-true, eq-eqb, ne_eqb, both_ways, false_from_ne_true}
use Rattle.std.proofs.lemmas.List.{get_or_default, map-append}
use Rattle.std.proofs.lemmas.Map.Keys.{IsDistinct-from_apart, IsDistinct-cons}
use Rattle.std.proofs.lemmas.Map.Steps.{length-le_from_distinct_below}
use Rattle.std.proofs.lemmas.Map.Views.{Contains-from_any}
use Rattle.orbits.proofs.Lists.{same_tests, from_filter, in_filter}
use Rattle.topo_base.specs.SignedEdge.{comes_before}
use Rattle.plane_model.specs.Sets.{has_edge}
use Rattle.plane_model.specs.Orders.{is_rising_edges}
use Rattle.plane_model.specs.PlaneMap.{PlaneMap, signed_edges, smallest, side, ring, rings}
use Rattle.plane_model.specs.Faces.{is_outer}
use Rattle.plane_model.specs.Lists.{holes, shell, ring_if_some}
use Rattle.plane_model.proofs.SetLaws.{same_edges}
use Rattle.plane_model.proofs.SortedEdges.{before_rank, rising_filter, same_rising_edges}
use Rattle.plane_model.proofs.OneOuterRing.{placed_map, placed_shells, one_shell, IsPlacedMap}
use Rattle.placement_laws.proofs.Parts.{parts_of, ring_name-there, ring_name-on}
use Rattle.placement_laws.proofs.Lists.{find_one}
use Rattle.code_laws.specs.Code.{start_of}
use Rattle.code_laws.specs.Numbers.{ring_of}
use Rattle.code_laws.specs.Orbits.{orbit}
use Rattle.code_laws.specs.declared.ring_number.RingNumber.TheVariants.{Outer, Shell}
use Rattle.file_laws.specs.Contents.{Contents, component_count}
use Rattle.file_laws.specs.MapOfFile.{signed_at, face_at, face_at_place, place_of_ring, rows_of_contents}
use Rattle.file_laws.specs.Agreement.{starts_of}
use Rattle.file_laws.specs.Lawful.{is_whole}
use Rattle.file_laws.proofs.Lists.{has-positions, position_in}
use Rattle.file_laws.proofs.Components.{labelled_rotation}
use Rattle.file_laws.proofs.Consistent.{consistent_of, outer_of}
use Rattle.file_laws.proofs.Orbits.{ring-orbit, ring_to}
use Rattle.file_laws.proofs.Rotation.{signed_rise}
use Rattle.file_laws.proofs.Placed.{start_in, start_has, start_from}
use Rattle.file_laws.proofs.Agreement.{agrees}
use Rattle.file_laws.specs.Agreement.{Agrees}
use Rattle.navigate.specs.Bound.{map_with}
use Rattle.navigate.specs.Least.{smallest_of}
use Rattle.pemb_file.specs.Milestones.{place_at}
use Rattle.navigate.specs.Holes.{components_between, outer_positions}
use Rattle.navigate.proofs.Facts.{w, place_next}
use Rattle.navigate.proofs.MapLists.{least-smallest, side_at}
use Rattle.navigate.proofs.NodePlaces.{start_ring, start_face}
use Rattle.pemb_file.proofs.PlaceLaws.{many, component_at, edges_rise}
use Rattle.navigate.proofs.FaceLaws.{between-next, between-none, outer-none, outer-some}

-- the entries of an order by a range
pub between-range : (c : Contents) (i n : ℕ) → i + n ≤ length c.place_order → components_between c i (i + n) ≡ map (slice_index c.place_order) (range_with_len i n)
between-range c i zero l = between-none c i (i + zero) (omega arith)
between-range c i (suc n) l =
    let on : i + suc n ≡ i + 1 + n = omega arith in
    between-next c i (i + suc n) (omega arith) l ∙ ap (λ e. slice_index c.place_order i ∷ components_between c (i + 1) e) on ∙ ap (λ xs. slice_index c.place_order i ∷ xs) (between-range c (i + 1) n (omega (arith, l)))

all_above : (f : ℕ → ℤ) (d : ℤ) (low n : ℕ) → ((j : ℕ) → low ≤ j → j < low + n → comes_before d (f j) ≡ true) → list_all (comes_before d) (map f (range_with_len low n)) ≡ true
all_above f d low zero h = refl
all_above f d low (suc n) h = and_from (comes_before d (f low)) (list_all (comes_before d) (map f (range_with_len (low + 1) n))) (h low (omega arith) (omega arith)) (all_above f d (low + 1) n (λ j a b. h j (omega (arith, a)) (omega (arith, b))))

pub range_rises : (f : ℕ → ℤ) (low n : ℕ) → ((i j : ℕ) → low ≤ i → i < j → j < low + n → comes_before (f i) (f j) ≡ true) → is_rising_edges (map f (range_with_len low n)) ≡ true
range_rises f low zero h = refl
range_rises f low (suc n) h =
    and_from (list_all (comes_before (f low)) (map f (range_with_len (low + 1) n))) (is_rising_edges (map f (range_with_len (low + 1) n)))
    (all_above f (f low) (low + 1) n (λ j a b. h low j (omega arith) (omega (arith, a)) (omega (arith, b))))
    (range_rises f (low + 1) n (λ i j a b d. h i j (omega (arith, a)) b (omega (arith, d))))

none_is : (q : ℕ) (xs : List ℕ) → list_any (eqb q) xs ≡ false → AllByRecursion (λ y. eqb q y ≡ false) xs
none_is q [] e = tt
none_is q (x ∷ xs) e = let p = or_parts (eqb q x) (list_any (eqb q) xs) e in (p.0, none_is q xs p.1)

map-both : (f : ℕ → ℕ) (g : ℕ → ℤ) (xs : List ℕ) → map g (map f xs) ≡ map (λ x. g (f x)) xs
map-both f g [] = refl
map-both f g (x ∷ xs) = ap (λ ys. g (f x) ∷ ys) (map-both f g xs)

-- the places that the order has from one entry to before another
pub record AreAt (c : Contents) (place from to : ℕ) : Type 0 where
  pub within : to ≤ length c.place_order
  pub before_from : (i : ℕ) → i < from → place_at c i < place
  pub from_from : (i : ℕ) → from ≤ i → i < length c.place_order → place ≤ place_at c i
  pub before_to : (i : ℕ) → i < to → place_at c i < place + 1
  pub from_to : (i : ℕ) → to ≤ i → i < length c.place_order → place + 1 ≤ place_at c i

pub in_order : (c : Contents) (place from to : ℕ) → from ≤ length c.place_order → AreAt c place from to → from ≤ to
in_order c place from to l at =
    elim (cases_lt to from) [
      | inl b ↦
          let x = at.before_from to b in
          let y = at.from_to to (omega arith) (omega (arith, b, l)) in
          absurd (omega (arith, x, y))
      | inr g ↦ g
    ]

module _ (c : Contents) (h : is_whole c ≡ true) where
  abbrev m : PlaneMap
  m = map_with c

  abbrev a : Agrees c m
  a = agrees c (w c h).seen

  abbrev start : ℕ → ℤ
  start j = signed_at c (start_of c.code j)

  abbrev edge_of_entry : ℕ → ℤ
  edge_of_entry i = start (slice_index c.place_order i)

  -- no component stands twice in the order, and each stands in it
  differ : (i j d : ℕ) → i < j → j < length c.place_order → eqb (get_or c.place_order i d) (get_or c.place_order j d) ≡ false
  differ i j d l b = ne_eqb _ _ (λ e.
      let f : slice_index c.place_order i ≡ slice_index c.place_order j = get_or_default c.place_order i 0 d (omega (arith, l, b)) ∙ e ∙ get_or_default c.place_order j d 0 b in
      let up = edges_rise c h i j l b (ap (slice_index c.places) f) in
      let same : edge_of_entry i ≡ edge_of_entry j = ap start f in
      let r = before_rank (edge_of_entry i) (edge_of_entry j) up in
      let k = ap Rattle.plane_model.proofs.SortedEdges.rank same in
      absurd (omega (arith, r, k)))

  stands_below : (q : ℕ) → list_any (eqb q) c.place_order ≡ true → q < component_count c
  stands_below q there =
      let found = Contains-from_any {eq = eqb} eqb-true q c.place_order there in
      let n = component_at c h found.0 found.1 in
      omega (arith, n, get_or_default c.place_order found.0 0 q found.1, found.2)

  within_all : (q : ℕ) → q < component_count c → (p : ℕ) → list_any (eqb p) (q ∷ c.place_order) ≡ true → p < component_count c
  within_all q l p e = elim (or_cases (eqb p q) (list_any (eqb p) c.place_order) e) [
    | inl f ↦ omega (arith, eqb-true p q f, l)
    | inr f ↦ stands_below p f
  ]

  pub entry_of : (q : ℕ) → q < component_count c → (k : ℕ) × (k < length c.place_order) × (slice_index c.place_order k ≡ q)
  entry_of q l = at (list_any (eqb q) c.place_order) refl
    where
      at : (b : Bool) → list_any (eqb q) c.place_order ≡ b → (k : ℕ) × (k < length c.place_order) × (slice_index c.place_order k ≡ q)
      at true e =
          let found = Contains-from_any {eq = eqb} eqb-true q c.place_order e in
          (found.0, found.1, get_or_default c.place_order found.0 0 q found.1 ∙ found.2)
      at false e =
          let all : length (q ∷ c.place_order) ≤ component_count c
          = length-le_from_distinct_below (q ∷ c.place_order) (component_count c) (IsDistinct-cons eqb q c.place_order (none_is q c.place_order e) (IsDistinct-from_apart eqb c.place_order differ)) (within_all q l) in
          let n = many c h in
          absurd (omega (arith, all, n))

  -- faces of places differ
  pub one_place : (p q : ℕ) → p ≤ length c.faces → q ≤ length c.faces → face_at_place c p ≡ face_at_place c q → p ≡ q
  one_place p q l k e =
      elim (cases_eq p 0) [
        | inl x ↦ elim (cases_eq q 0) [
          | inl y ↦ omega (arith, x, y)
          | inr y ↦
              let s = (w c h).face_names.in_range (q - 1) (omega (arith, k, y)) in
              let p_is : face_at_place c p ≡ 0 = rw (eq-eqb p 0 x) refl in
              let q_is : face_at_place c q ≡ slice_index c.faces (q - 1) = rw (ne_eqb q 0 y) refl in
              absurd (omega (arith, s.0, p_is, q_is, e))
        ]
        | inr x ↦
            let p_is : face_at_place c p ≡ slice_index c.faces (p - 1) = rw (ne_eqb p 0 x) refl in
            let r = (w c h).face_names.in_range (p - 1) (omega (arith, l, x)) in
            elim (cases_eq q 0) [
              | inl y ↦
                  let q_is : face_at_place c q ≡ 0 = rw (eq-eqb q 0 y) refl in
                  absurd (omega (arith, r.0, p_is, q_is, e))
              | inr y ↦
                  let q_is : face_at_place c q ≡ slice_index c.faces (q - 1) = rw (ne_eqb q 0 y) refl in
                  let same = (w c h).face_names.distinct (p - 1) (q - 1) (omega (arith, l, x)) (omega (arith, k, y)) (sym p_is ∙ e ∙ q_is) in
                  omega (arith, same, x, y)
            ]
      ]

  rings_rise : is_rising_edges (rings m) ≡ true
  rings_rise = rising_filter (λ d. Rattle.topo_base.specs.SignedEdge.same_edge d (smallest d (ring m d))) (signed_edges m) (signed_rise c (w c h))

  placed : IsPlacedMap (rows_of_contents c)
  placed = placed_map (rows_of_contents c) (consistent_of c h)

  test : ℕ → ℤ → Bool
  test f r = (side m r == f) && is_outer m r

  -- the holes of the face at a place are the starts of the components there, in the order of the file
  holes_by : (place from n : ℕ) → place ≤ length c.faces → AreAt c place from (from + n) → holes m (face_at_place c place) ≡ map edge_of_entry (range_with_len from n)
  unfolding test
  holes_by place from n l at =
      let f = face_at_place c place in
      same_rising_edges (holes m f) (map edge_of_entry (range_with_len from n))
      (rising_filter (test f) (rings m) rings_rise)
      (range_rises edge_of_entry from n (λ i j x y z.
      let b1 = at.before_to i (omega (arith, y, z)) in
      let b2 = at.before_to j z in
      let f1 = at.from_from i x (omega (arith, y, z, at.within)) in
      let f2 = at.from_from j (omega (arith, x, y)) (omega (arith, z, at.within)) in
      edges_rise c h i j y (omega (arith, z, at.within)) (omega (arith, b1, b2, f1, f2))))
      (λ x. same_tests (has_edge (holes m f) x) (has_edge (map edge_of_entry (range_with_len from n)) x)
      (λ there.
      let parts = from_filter same_edges (test f) (rings m) x there in
      let both = and_parts (side m x == f) (is_outer m x) parts.0 in
      let j = start_from c (w c h) x (sym (outer_of c h x) ∙ both.1) in
      let i = entry_of j.0 j.1 in
      let face : face_at_place c (slice_index c.places j.0) ≡ f = sym (start_face c h j.0 j.1) ∙ ap (side m) j.2 ∙ eqb-true (side m x) f both.0 in
      let p = one_place (slice_index c.places j.0) place ((w c h).placed j.0 j.1).place l face in
      let at_i : place_at c i.0 ≡ place = ap (slice_index c.places) i.2 ∙ p in
      let low : from ≤ i.0 = elim (cases_lt i.0 from) [ inl b ↦ (let z = at.before_from i.0 b in absurd (omega (arith, z, at_i))) | inr g ↦ g ] in
      let high : i.0 < from + n = elim (cases_lt i.0 (from + n)) [ inl b ↦ b | inr g ↦ (let z = at.from_to i.0 g i.1 in absurd (omega (arith, z, at_i))) ] in
      subst (λ y. has_edge (map edge_of_entry (range_with_len from n)) y ≡ true) (ap start i.2 ∙ j.2) (has-positions edge_of_entry from n i.0 low high))
      (λ there.
      let i = position_in edge_of_entry from n x there in
      let i_in : i.0 < length c.place_order = omega (arith, i.2, at.within) in
      let j_in = component_at c h i.0 i_in in
      let b = at.before_to i.0 i.2 in
      let g = at.from_from i.0 i.1 i_in in
      let at_i : place_at c i.0 ≡ place = omega (arith, b, g) in
      let outer : is_outer m x ≡ true = outer_of c h x ∙ subst (λ y. has_edge (starts_of c) y ≡ true) i.3 (start_has c (w c h) (slice_index c.place_order i.0) j_in) in
      let face : side m x ≡ f = ap (side m) (sym i.3) ∙ start_face c h (slice_index c.place_order i.0) j_in ∙ ap (face_at_place c) at_i in
      in_filter same_edges (test f) (rings m) x (and_from (side m x == f) (is_outer m x) (eq-eqb (side m x) f face) outer) ((placed_shells (rows_of_contents c) placed).outer_among x outer)))

  pub holes_at : (place from to : ℕ) → place ≤ length c.faces → from ≤ to → AreAt c place from to → map start (components_between c from to) ≡ holes m (face_at_place c place)
  holes_at place from to l up at =
      let n = to - from in
      let e : from + n ≡ to = omega (arith, up) in
      let at' : AreAt c place from (from + n) = subst (AreAt c place from) (sym e) at in
      ap (λ t. map start (components_between c from t)) (sym e) ∙ ap (map start) (between-range c from n (omega (arith, e, at.within))) ∙ map-both (slice_index c.place_order) start (range_with_len from n)
      ∙ sym (holes_by place from n l at')

  -- the rings of components, one after the other
  outer_list : (i n : ℕ) → i + n ≤ length c.place_order → map (signed_at c) (outer_positions c (components_between c i (i + n))) ≡ flat_map (ring m) (map start (components_between c i (i + n)))
  outer_list i zero l =
      let none = between-none c i (i + zero) (omega arith) in
      ap (λ js. map (signed_at c) (outer_positions c js)) none ∙ ap (map (signed_at c)) (outer-none c) ∙ ap (λ js. flat_map (ring m) (map start js)) (sym none)
  outer_list i (suc n) l =
      let j = slice_index c.place_order i in
      let js = components_between c (i + 1) (i + suc n) in
      let on : i + 1 + n ≡ i + suc n = omega arith in
      let next = between-next c i (i + suc n) (omega arith) l in
      let j_in = start_in c (w c h) j (component_at c h i (omega (arith, l))) in
      let more : map (signed_at c) (outer_positions c js) ≡ flat_map (ring m) (map start js)
      = subst (λ e. map (signed_at c) (outer_positions c (components_between c (i + 1) e)) ≡ flat_map (ring m) (map start (components_between c (i + 1) e))) on (outer_list (i + 1) n (omega (arith, l))) in
      ap (λ xs. map (signed_at c) (outer_positions c xs)) next ∙ ap (map (signed_at c)) (outer-some c j js) ∙ map-append (signed_at c) (orbit c.code false (start_of c.code j)) (outer_positions c js)
      ∙ ap (λ xs. xs ++ map (signed_at c) (outer_positions c js)) (sym (ring-orbit c (w c h) (start_of c.code j) j_in)) ∙ ap (λ xs. ring m (start j) ++ xs) more
      ∙ ap (λ xs. flat_map (ring m) (map start xs)) (sym next)

  pub outer_rings_at : (place from to : ℕ) → place ≤ length c.faces → from ≤ to → AreAt c place from to
      → map (signed_at c) (outer_positions c (components_between c from to)) ≡ flat_map (ring m) (holes m (face_at_place c place))
  outer_rings_at place from to l up at =
      let e : from + (to - from) ≡ to = omega (arith, up) in
      subst (λ t. map (signed_at c) (outer_positions c (components_between c from t)) ≡ flat_map (ring m) (map start (components_between c from t))) e (outer_list from (to - from) (omega (arith, e, at.within)))
      ∙ ap (flat_map (ring m)) (holes_at place from to l up at)

  -- the halves of a face
  pub face_0 : (place : ℕ) → place ≡ 0 → [] ≡ (if face_at_place c place == 0 then [] else ring_if_some m (shell m (face_at_place c place)))
  face_0 place e =
      let f : face_at_place c place ≡ 0 = rw (eq-eqb place 0 e) refl in
      sym (ap (λ b. if b then [] else ring_if_some m (shell m (face_at_place c place))) (eq-eqb (face_at_place c place) 0 f))

  pub face_other : (s : ℕ) → s < length c.faces → ring_if_some m (shell m (face_at_place c (s + 1))) ≡ (if face_at_place c (s + 1) == 0 then [] else ring_if_some m (shell m (face_at_place c (s + 1))))
  face_other s l =
      let r = (w c h).face_names.in_range s l in
      let f = place_next c s in
      let off : (face_at_place c (s + 1) == 0) ≡ false = ne_eqb (face_at_place c (s + 1)) 0 (λ e. absurd (omega (arith, e, f, r.0))) in
      sym (ap (λ b. if b then [] else ring_if_some m (shell m (face_at_place c (s + 1)))) off)

  -- the shell of a face, by its smallest signed edge
  pub shell_at : (p s : ℕ) → p < length c.code.a → smallest_of c false p < length c.code.a → s < length c.faces → ring_of c.code p ≡ Shell s
      → map (signed_at c) (orbit c.code false (smallest_of c false p)) ≡ ring_if_some m (shell m (face_at_place c (s + 1)))
  unfolding face_at
  shell_at p s l k s_in e =
      let d = signed_at c p in
      let parts = parts_of (rows_of_contents c) (labelled_rotation c (w c h)) in
      let name = smallest d (ring m d) in
      let q = smallest_of c false p in
      let named : signed_at c q ≡ name = least-smallest c p (orbit c.code false p) ∙ ap (smallest d) (sym (ring-orbit c (w c h) p l)) in
      let d_in = a.there p l in
      let there = ring_name-there m parts d d_in in
      let on : has_edge (ring m d) (signed_at c q) ≡ true = subst (λ x. has_edge (ring m d) x ≡ true) (sym named) (ring_name-on m parts d d_in) in
      let number : ring_of c.code q ≡ Shell s = sym (ring_to c (w c h) p q l k on) ∙ e in
      let out : is_outer m name ≡ false = false_from_ne_true (is_outer m name) (λ o.
      let j = start_from c (w c h) name (sym (outer_of c h name) ∙ o) in
      let same : start_of c.code j.0 ≡ q = a.one (start_of c.code j.0) q (start_in c (w c h) j.0 j.1) k (j.2 ∙ sym named) in
      apart j.0 s (sym (start_ring c h j.0 j.1) ∙ ap (ring_of c.code) same ∙ number)) in
      let face : side m name ≡ face_at_place c (s + 1) = sym (side_at c h q name k named) ∙ own q number in
      let f = face_at_place c (s + 1) in
      let found : shell m f ≡ Some name = find_one (λ r. (side m r == f) && not (is_outer m r)) (rings m) name there
      (and_from (side m name == f) (not (is_outer m name)) (eq-eqb (side m name) f face) (ap not out))
      (λ r r_in passes.
      let both = and_parts (side m r == f) (not (is_outer m r)) passes in
      let r_out : is_outer m r ≡ false = Rattle.std.proofs.lemmas.Bool.not-true (is_outer m r) both.1 in
      one_shell (rows_of_contents c) placed r name r_in there r_out out (eqb-true (side m r) f both.0 ∙ sym face)) in
      sym (ring-orbit c (w c h) q k) ∙ ap (ring m) named ∙ ap (ring_if_some m) (sym found)
    where
      apart : (j s : ℕ) → Outer j ≡ Shell s → ⊥
      apart j s e = cc

      own : (q : ℕ) → ring_of c.code q ≡ Shell s → face_at c q ≡ face_at_place c (s + 1)
      own q number = ap (λ r. face_at_place c (place_of_ring c r)) number
