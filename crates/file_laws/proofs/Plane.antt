-- Each component of the map is plane.
use Rattle.std.specs.Prelude.{ℤ, pos, filter, slice_index}
use Rattle.std.proofs.Common.{◌≡◌, ℕ, ◌-◌, ◌<◌, inl, inr, Bool, true, List, [], ◌∷◌, length, refl, ap, sym, ◌∙◌, arith, subst, ◌==◌}
use Rattle.std.specs.List.{list_any}
use Rattle.std.proofs.lemmas.Bool.{eqb-true, eq-eqb, or_cases, or_left, or_right}
use Rattle.std.proofs.lemmas.List.FromFn.{length-range_with_len}
use Rattle.topo_base.specs.SignedEdge.{same_edge}
use Rattle.orbits.proofs.Lists.{apart_kept, in_filter, from_filter, any_from as edge_any, all_from as edges_all}
use Rattle.orbits.proofs.Numbers.{same_numbers, in_range, from_range, range_apart}
use Rattle.plane_model.specs.Sets.{has, has_edge}
use Rattle.plane_model.specs.PlaneMap.{PlaneMap, map_of, signed_edges, origin, leaving, ring, rings, smallest}
use Rattle.plane_model.specs.Component.{component, components, node_count, edge_count, ring_count, is_plane_component, is_plane}
use Rattle.plane_model.proofs.SetLaws.{same_is, same_self, same_edges}
use Rattle.plane_model.proofs.ComponentParts.{component-reverse}
use Rattle.placement_laws.proofs.Parts.{HasParts, parts_of, component_sub, components-signed, ring_name-same, ring_name-there, ring_name-on, ring_alike, ring_component, rings-apart, rings-signed}
use Rattle.code_laws.specs.Code.{component_of, start_of, end_of}
use Rattle.code_laws.specs.Numbers.{node_of, ring_of, is_ring}
use Rattle.code_laws.specs.Counts.{positions_in, begins_node, begins_ring, nodes_in, rings_in, edges_in}
use Rattle.code_laws.specs.declared.ring_number.RingNumber.{RingNumber}
use Rattle.code_laws.specs.declared.ring_number.RingNumber.TheVariants.{Outer, Shell}
use Rattle.code_laws.proofs.Sound.{in_one, is_component}
use Rattle.code_laws.proofs.Steps.{IsIn}
use Rattle.code_laws.proofs.Counted.{nodes_counted, rings_counted, edges_counted}
use Rattle.code_laws.proofs.Numbered.{ring-beside, node-beside}
use Rattle.file_laws.specs.Contents.{Contents}
use Rattle.file_laws.specs.MapOfFile.{signed_at, node_at, rows_of_contents}
use Rattle.file_laws.specs.Agreement.{Agrees}
use Rattle.file_laws.proofs.Counting.{as_many_numbers, as_many_edges, both_pass, begins_one, first_with}
use Rattle.file_laws.proofs.Agreement.{agrees}
use Rattle.file_laws.proofs.Consistency.{position_of}
use Rattle.file_laws.proofs.Whole.{WholeParts}
use Rattle.file_laws.proofs.Fits.{node_in}
use Rattle.file_laws.proofs.Orbits.{ring_from, ring_to}
use Rattle.file_laws.proofs.Rotation.{rotation, signed_apart, node_key, node_keys_apart, at_leaves}
use Rattle.file_laws.proofs.Components.{labelled_rotation, component_to, component_from, bounds}

ring-is : (x y : RingNumber) → is_ring x y ≡ true → y ≡ x
ring-is (Outer i) (Outer j) h = ap Outer (eqb-true _ _ h)
ring-is (Outer i) (Shell j) h = cc
ring-is (Shell i) (Outer j) h = cc
ring-is (Shell i) (Shell j) h = ap Shell (eqb-true _ _ h)

is-ring : (x y : RingNumber) → y ≡ x → is_ring x y ≡ true
is-ring x y e = subst (λ z. is_ring x z ≡ true) (sym e) (at x)
  where
    at : (x : RingNumber) → is_ring x x ≡ true
    at (Outer i) = eq-eqb i i refl
    at (Shell i) = eq-eqb i i refl

module _ (c : Contents) (w : WholeParts c) where
  abbrev m : PlaneMap
  m = map_of (rows_of_contents c)

  abbrev a : Agrees c m
  a = agrees c w.seen

  parts : HasParts m
  parts = parts_of (rows_of_contents c) (labelled_rotation c w)

  node_test : ℕ → ℕ → Bool
  node_test p q = node_of c.code q == node_of c.code p

  -- position p, and the component j that it is in
  module _ (p0 : ℕ) (l0 : p0 < length c.code.a) (j : ℕ) (i : IsIn c.code p0 j) where
    abbrev ds : List ℤ
    ds = component m (signed_at c p0)

    inside : (p : ℕ) → has (positions_in c.code j) p ≡ true → (p < length c.code.a) × (component_of c.code p ≡ j)
    inside p h =
        let r = from_range (start_of c.code j) (end_of c.code j - start_of c.code j) p h in
        let to : p < end_of c.code j = omega (arith, r.0, r.1) in
        (omega (arith, to, i.within), is_component c.code w.seen.sound p j i.count r.0 to)

    among_them : (p : ℕ) → p < length c.code.a → component_of c.code p ≡ j → has (positions_in c.code j) p ≡ true
    among_them p l e = let b = bounds c w p0 j p i l e in in_range (start_of c.code j) (end_of c.code j - start_of c.code j) p b.0 (omega (arith, b.0, b.1))

    there : (p : ℕ) → p < length c.code.a → component_of c.code p ≡ j → has_edge ds (signed_at c p) ≡ true
    there p l e = component_from c w p0 l0 p l (e ∙ sym i.is)

    its_component : (p : ℕ) → p < length c.code.a → has_edge ds (signed_at c p) ≡ true → component_of c.code p ≡ j
    its_component p l h = component_to c w p0 p l0 l h ∙ i.is

    -- nodes
    nodes_same : nodes_in c.code j ≡ node_count m ds
    unfolding node_at
    nodes_same =
        let test : ℕ → Bool = λ n. list_any (has_edge ds) (leaving m n) in
        as_many_numbers (node_at c) (filter (begins_node c.code) (positions_in c.code j)) (filter test m.nodes.keys)
        (apart_kept same_numbers (begins_node c.code) (positions_in c.code j) (range_apart (start_of c.code j) (end_of c.code j - start_of c.code j)))
        (apart_kept same_numbers test m.nodes.keys (node_keys_apart c w))
        (λ p q h k same.
        let p' = from_filter same_numbers (begins_node c.code) (positions_in c.code j) p h in
        let q' = from_filter same_numbers (begins_node c.code) (positions_in c.code j) q k in
        let lp = inside p p'.1 in
        let lq = inside q q'.1 in
        let number : node_of c.code p ≡ node_of c.code q = w.node_names.distinct (node_of c.code p) (node_of c.code q) (node_in c w p lp.0) (node_in c w q lq.0) same in
        begins_one (node_of c.code) (λ p q. node_of c.code q == node_of c.code p) (length c.code.a) (λ p q t. eqb-true _ _ t) (λ p q e. eq-eqb _ _ e) p q p'.0 q'.0 number)
        (λ p h.
        let p' = from_filter same_numbers (begins_node c.code) (positions_in c.code j) p h in
        let l = inside p p'.1 in
        in_filter same_numbers test m.nodes.keys (node_at c p) (edge_any same_edges (has_edge ds) (leaving m (node_at c p)) (signed_at c p) (at_leaves c w p l.0) (there p l.0 l.1)) (node_key c w (node_of c.code p) (node_in c w p l.0)))
        (λ n h.
        let n' = from_filter same_numbers test m.nodes.keys n h in
        let d = some_of (has_edge ds) (leaving m n) n'.0 in
        let d' = from_filter same_edges (λ d. origin m d == n) (signed_edges m) d.0 d.1 in
        let q = position_of c w.seen d.0 d'.1 in
        let q_on : has_edge ds (signed_at c q.0) ≡ true = subst (λ x. has_edge ds x ≡ true) (sym q.2) d.2 in
        let q_is = its_component q.0 q.1 q_on in
        let f = first_with (node_of c.code) (λ p q. node_of c.code q == node_of c.code p) (length c.code.a) (λ p q t. eqb-true _ _ t) (λ p q e. eq-eqb _ _ e) q.0 q.1 in
        let b = node-beside c.code w.seen.sound q.0 f.0 q.1 f.1 (sym f.2) in
        let f_in = among_them f.0 f.1 (b.component ∙ q_is) in
        let at_n : node_at c q.0 ≡ n = sym (a.origins q.0 q.1) ∙ ap (origin m) q.2 ∙ eqb-true _ _ d'.0 in
        (f.0, in_filter same_numbers (begins_node c.code) (positions_in c.code j) f.0 f.3 f_in, ap (λ x. slice_index c.nodes x) f.2 ∙ at_n))
      where
        some_of : (s : ℤ → Bool) (es : List ℤ) → list_any s es ≡ true → (d : ℤ) × (has_edge es d ≡ true) × (s d ≡ true)
        some_of s [] h = cc
        some_of s (d ∷ es) h = elim (or_cases (s d) (list_any s es) h) [
          | inl is ↦ (d, or_left _ _ (same_self d), is)
          | inr more ↦ let r = some_of s es more in (r.0, or_right _ _ r.1, r.2)
        ]

    -- rings
    name : ℕ → ℤ
    name p = smallest (signed_at c p) (ring m (signed_at c p))

    rings_same : rings_in c.code j ≡ ring_count m ds
    unfolding name
    rings_same =
        as_many_edges name (filter (begins_ring c.code) (positions_in c.code j)) (filter (has_edge ds) (rings m))
        (apart_kept same_numbers (begins_ring c.code) (positions_in c.code j) (range_apart (start_of c.code j) (end_of c.code j - start_of c.code j)))
        (apart_kept same_edges (has_edge ds) (rings m) (rings-apart m parts))
        (λ p q h k same.
        let p' = from_filter same_numbers (begins_ring c.code) (positions_in c.code j) p h in
        let q' = from_filter same_numbers (begins_ring c.code) (positions_in c.code j) q k in
        let lp = inside p p'.1 in
        let lq = inside q q'.1 in
        let on : has_edge (ring m (signed_at c p)) (signed_at c q) ≡ true
        = ring_alike m parts (signed_at c p) (signed_at c q) (a.there p lp.0) (a.there q lq.0) ∙ subst (λ z. same_edge (name p) z ≡ true) same (same_self (name p)) in
        let number = ring_to c w p q lp.0 lq.0 on in
        begins_one (ring_of c.code) (λ p q. is_ring (ring_of c.code p) (ring_of c.code q)) (length c.code.a) (λ p q t. ring-is _ _ t) (λ p q e. is-ring _ _ e) p q p'.0 q'.0 number)
        (λ p h.
        let p' = from_filter same_numbers (begins_ring c.code) (positions_in c.code j) p h in
        let l = inside p p'.1 in
        let d_in = a.there p l.0 in
        let on = ring_name-on m parts (signed_at c p) d_in in
        in_filter same_edges (has_edge ds) (rings m) (name p) (component_sub m parts (signed_at c p0) (signed_at c p) (name p) (a.there p0 l0) (there p l.0 l.1) (ring_component m parts (signed_at c p) (name p) d_in on))
        (ring_name-there m parts (signed_at c p) d_in))
        (λ y h.
        let y' = from_filter same_edges (has_edge ds) (rings m) y h in
        let q = position_of c w.seen y (rings-signed m y y'.1) in
        let q_is = its_component q.0 q.1 (subst (λ x. has_edge ds x ≡ true) (sym q.2) y'.0) in
        let f = first_with (ring_of c.code) (λ p q. is_ring (ring_of c.code p) (ring_of c.code q)) (length c.code.a) (λ p q t. ring-is _ _ t) (λ p q e. is-ring _ _ e) q.0 q.1 in
        let b = ring-beside c.code w.seen.sound q.0 f.0 q.1 f.1 (sym f.2) in
        let f_in = among_them f.0 f.1 (b.component ∙ q_is) in
        let on = ring_from c w q.0 f.0 q.1 f.1 (sym f.2) in
        let same = ring_name-same m parts (signed_at c q.0) (signed_at c f.0) (a.there q.0 q.1) on in
        let own : name q.0 ≡ y = subst (λ x. smallest x (ring m x) ≡ y) (sym q.2) (sym (same_is y (smallest y (ring m y)) (from_filter same_edges (λ d. same_edge d (smallest d (ring m d))) (signed_edges m) y y'.1).0)) in
        (f.0, in_filter same_numbers (begins_ring c.code) (positions_in c.code j) f.0 f.3 f_in, same ∙ own))

    -- edges
    edges_same : edges_in c.code j ≡ edge_count m ds
    unfolding signed_edges
    edges_same =
        let many : length (positions_in c.code j) ≡ length (filter (has_edge ds) (signed_edges m))
        = as_many_edges (signed_at c) (positions_in c.code j) (filter (has_edge ds) (signed_edges m))
        (range_apart (start_of c.code j) (end_of c.code j - start_of c.code j))
        (apart_kept same_edges (has_edge ds) (signed_edges m) (signed_apart c w))
        (λ p q h k same. a.one p q (inside p h).0 (inside q k).0 same)
        (λ p h. let l = inside p h in in_filter same_edges (has_edge ds) (signed_edges m) (signed_at c p) (there p l.0 l.1) (a.there p l.0))
        (λ y h.
        let y' = from_filter same_edges (has_edge ds) (signed_edges m) y h in
        let q = position_of c w.seen y y'.1 in
        (q.0, among_them q.0 q.1 (its_component q.0 q.1 (subst (λ x. has_edge ds x ≡ true) (sym q.2) y'.0)), q.2)) in
        let pairs = both_pass (has_edge ds) m.edges.keys (λ e. component-reverse (rows_of_contents c) (rotation c w) (signed_at c p0) (pos e) (a.there p0 l0)) in
        let len = length-range_with_len (start_of c.code j) (end_of c.code j - start_of c.code j) in
        omega (arith, many, pairs, len)

    plane_at : is_plane_component m (signed_at c p0) ≡ true
    plane_at =
        let n = nodes_same in
        let r = rings_same in
        let e = edges_same in
        let nc = nodes_counted c.code w.seen.sound j i.count in
        let rc = rings_counted c.code w.seen.sound j i.count in
        let ec = edges_counted c.code w.seen.sound j i.count in
        eq-eqb _ _ (omega (arith, n, r, e, nc, rc, ec))

  pub plane : is_plane m ≡ true
  plane =
      edges_all same_edges (is_plane_component m) (components m) (λ d h.
      let p = position_of c w.seen d (components-signed m d h) in
      let i = in_one c.code w.seen.sound p.0 p.1 in
      subst (λ x. is_plane_component m x ≡ true) p.2 (plane_at p.0 p.1 i.0 i.1))
