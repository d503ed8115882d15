-- The face that contains a node.
use Rattle.std.specs.Prelude.{ℤ, slice_index, option_map, find, ◌==◌}
use Rattle.std.proofs.Common.{◌≡◌, ℕ, ◌-◌, ◌<◌, ◌≤◌, true, false, List, [], ◌∷◌, length, refl, ap, sym, ◌∙◌, arith, subst, Some, None}
use Rattle.std.proofs.lemmas.Bool.{le-ltb, lt-ltb, or_left, eqb-true}
use Rattle.std.specs.List.{range_with_len}
use Rattle.bit_words.proofs.Finds.{least-find}
use Rattle.plane_model.specs.Sets.{has_edge, or_else}
use Rattle.plane_model.specs.PlaneMap.{PlaneMap, side, leaving}
use Rattle.plane_model.specs.Rotation.{node_face}
use Rattle.plane_model.specs.Lists.{containing, enclosing_face}
use Rattle.plane_model.specs.Faces.{outer_ring}
use Rattle.plane_model.proofs.SetLaws.{same_self}
use Rattle.code_laws.specs.Code.{Code, component_of, start_of, component_count as code_components}
use Rattle.code_laws.specs.Numbers.{node_of, first_of_node, ring_of, shell_or_outer}
use Rattle.code_laws.specs.declared.ring_number.RingNumber.TheVariants.{Outer}
use Rattle.code_laws.proofs.Steps.{none_at}
use Rattle.code_laws.proofs.Sound.{in_one, is_well, flat}
use Rattle.code_laws.proofs.Numbered.{node-beside}
use Rattle.file_laws.specs.Contents.{Contents, component_count}
use Rattle.file_laws.specs.MapOfFile.{signed_at, face_at, face_at_place, place_of_ring, node_row, joined_count}
use Rattle.file_laws.specs.Lawful.{is_whole}
use Rattle.file_laws.proofs.Fits.{components_same}
use Rattle.file_laws.proofs.Whole.{WholeParts, whole_parts}
use Rattle.file_laws.proofs.Rotation.{at_leaves, face_of}
use Rattle.file_laws.proofs.Placed.{start_in, start_component}
use Rattle.file_laws.proofs.Positions.{outer_at}
use Rattle.navigate.specs.Bound.{map_with}
use Rattle.navigate.proofs.MapLists.{leaves_at, side_at}

-- the first position of a node leaves it
pub first_node : (c : Contents) (k : Code) (n p : ℕ) → k ≡ c.code → Some p ≡ first_of_node k n → node_of c.code p ≡ n
unfolding first_of_node
first_node c k n p same e =
    let at : find (λ q. node_of c.code q == n) (range_with_len 0 (length c.code.a)) ≡ Some p = sym (e ∙ ap (λ (x : Code). first_of_node x n) same) in
    eqb-true (node_of c.code p) n (least-find (λ q. node_of c.code q == n) 0 (length c.code.a) p at).passes

module _ (c : Contents) (h : is_whole c ≡ true) where
  abbrev m : PlaneMap
  m = map_with c

  w : WholeParts c
  w = whole_parts c h

  pub component_in : (k : Code) (j : ℕ) → k ≡ c.code → j < code_components k → j < length c.places
  component_in k j same l =
      let many : code_components k ≡ code_components c.code = ap (λ (x : Code). code_components x) same in
      let e = components_same c w in
      omega (arith, many, e, l)

  -- a component's start has its outer ring
  pub start_ring : (j : ℕ) → j < component_count c → ring_of c.code (start_of c.code j) ≡ Outer j
  unfolding ring_of
  start_ring j l =
      let i = start_in c w j l in
      let k = components_same c w in
      let none = none_at c.code (is_well c.code w.seen.sound) false (start_of c.code j) (omega (arith, i)) (flat c.code w.seen.sound false j (omega (arith, l, k))) in
      ap (shell_or_outer c.code (start_of c.code j)) none ∙ ap Outer (start_component c w j l)

  pub start_face : (j : ℕ) → j < component_count c → side m (signed_at c (start_of c.code j)) ≡ face_at_place c (slice_index c.places j)
  unfolding face_at
  start_face j l = sym (side_at c h (start_of c.code j) (signed_at c (start_of c.code j)) (start_in c w j l) refl) ∙ ap (λ r. face_at_place c (place_of_ring c r)) (start_ring j l)

  -- an isolated node is where it was placed
  pub isolated_in : (x place : ℕ) → x < length c.nodes → joined_count c ≤ x → place ≡ slice_index c.isolated (x - joined_count c) → containing m (slice_index c.nodes x) ≡ Some (face_at_place c place)
  isolated_in x place l g e =
      let test = le-ltb x (joined_count c) g in
      let face : node_face m (slice_index c.nodes x) ≡ Some (face_at_place c place) = face_of c w x l ∙ rw test (ap (λ y. Some (face_at_place c y)) (sym e)) in
      ap (λ o. or_else o (enclosing_face m (leaving m (slice_index c.nodes x)))) face

  from_leaving : (p : ℕ) (ds : List ℤ) → p < length c.code.a → leaving m (slice_index c.nodes (node_of c.code p)) ≡ ds → node_of c.code p < length c.nodes
      → enclosing_face m ds ≡ Some (face_at_place c (slice_index c.places (component_of c.code p)))
  unfolding Rattle.file_laws.specs.MapOfFile.node_at
  from_leaving p [] l e x_in =
      let own : has_edge [] (signed_at c p) ≡ true = subst (λ es. has_edge es (signed_at c p) ≡ true) e (at_leaves c w p l) in
      cc
  from_leaving p (d ∷ ds) l e x_in =
      let there : has_edge (leaving m (slice_index c.nodes (node_of c.code p))) d ≡ true = subst (λ es. has_edge es d ≡ true) (sym e) (or_left _ _ (same_self d)) in
      let q = leaves_at c h (node_of c.code p) x_in d there in
      let beside = node-beside c.code w.seen.sound p q.position l q.within (sym q.node) in
      let i = in_one c.code w.seen.sound p l in
      let k = components_same c w in
      let j_in : component_of c.code p < component_count c = omega (arith, i.1.count, i.1.is, k) in
      let outer : outer_ring m d ≡ Some (signed_at c (start_of c.code (component_of c.code p)))
      = ap (outer_ring m) (sym q.at) ∙ outer_at c h q.position q.within ∙ ap (λ j. Some (signed_at c (start_of c.code j))) beside.component in
      ap (option_map (side m)) outer ∙ ap Some (start_face (component_of c.code p) j_in)

  -- any other node is where its component was placed
  pub joined_in : (x p place : ℕ) → x < length c.nodes → x < joined_count c → p < length c.code.a → node_of c.code p ≡ x → place ≡ slice_index c.places (component_of c.code p)
      → containing m (slice_index c.nodes x) ≡ Some (face_at_place c place)
  joined_in x p place l k p_in e f =
      let test = lt-ltb x (joined_count c) k in
      let face : node_face m (slice_index c.nodes x) ≡ None = face_of c w x l ∙ rw test refl in
      let same : slice_index c.nodes (node_of c.code p) ≡ slice_index c.nodes x = ap (slice_index c.nodes) e in
      ap (λ o. or_else o (enclosing_face m (leaving m (slice_index c.nodes x)))) face
      ∙ from_leaving p (leaving m (slice_index c.nodes x)) p_in (ap (leaving m) same) (omega (arith, e, l))
      ∙ ap (λ y. Some (face_at_place c y)) (sym f)
