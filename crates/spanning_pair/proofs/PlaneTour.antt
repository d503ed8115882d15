-- The edges of a tour that are not of the tree nest exactly where each component is plane.
use Rattle.std.proofs.Common.{◌≡◌, ℕ, ◌+◌, ◌-◌, ◌*◌, ◌<◌, ◌≤◌, ◌↔◌, inl, inr, ℤ, pos, Bool, true, false, List, length, refl, sym, ap, ◌∙◌, subst, arith, eq-eqb}
use Rattle.std.specs.Prelude.{IsTrue}
use Rattle.std.proofs.lemmas.Bool.{cases_Bool, eqb-true, false_from_ne_true}
use Rattle.topo_base.specs.SignedEdge.{edge_of, same_edge}
use Rattle.orbits.proofs.Lists.{from_filter, among, all_from}
use Rattle.plane_model.proofs.SetLaws.{same_edges}
use Rattle.plane_model.specs.Sets.{has_edge}
use Rattle.plane_model.specs.PlaneMap.{signed_edges, smallest}
use Rattle.plane_model.specs.Component.{component, components, node_count, edge_count, ring_count, is_plane_component, is_plane}
use Rattle.plane_model.proofs.ComponentParts.{component_parts, component_own, component_back, component-reverse, its_component}
use Rattle.plane_model.proofs.SortedEdges.{signed-has}
use Rattle.rotation_check.specs.Darts.{RotationRows, IsRotation, map_of_rotation, signed_edge}
use Rattle.rotation_check.proofs.DartLists.{signed_there}
use Rattle.cycle_pairs.specs.Pairs.{Nests}
use Rattle.spanning_pair.specs.Crossings.{OthersNest, IsFirstCrossing}
use Rattle.spanning_pair.specs.Darts.{reverse_dart}
use Rattle.orbits.specs.Components.InComponent.{reversed}
use Rattle.spanning_pair.specs.Rotations.{dart_of, next_dart, node_row, AreComponentStarts}
use Rattle.spanning_pair.specs.Tours.{number_at, flag_at, IsTour}
use Rattle.spanning_pair.specs.Walks.{IsTreeWalk}
use Rattle.spanning_pair.proofs.ComponentDarts.{to_component, from_component}
use Rattle.spanning_pair.proofs.Components.{component_below}
use Rattle.spanning_pair.proofs.EulerCount.{nests_where_plane, positive}
use Rattle.spanning_pair.proofs.Open.{place_in, places_up}
use Rattle.spanning_pair.proofs.RotationDarts.{own_rows, dart_there, numbered_system}
use Rattle.spanning_pair.proofs.WalkPairs.{mate_of, pairing, mate_other, is_mate, alone}

-- pairs of places nest exactly where the edges do
module _ (next node : ℕ → ℕ) (start : ℕ) (dart : ℕ → ℕ) (tree first : ℕ → Bool) (a b : ℕ) (w : IsTreeWalk next node start dart tree first a b) where
  abbrev mate : ℕ → ℕ
  mate = mate_of next node start dart tree first a b w

  other : (i : ℕ) → i < b - a → i < mate i → tree (a + i) ≡ false
  other i l first_of = elim (cases_Bool (tree (a + i))) [
    | inl y ↦ let e : mate i ≡ i = alone next node start dart tree first a b w i l y in absurd (omega arith)
    | inr n ↦ n
  ]

  pub edges_nest : Nests (b - a) mate ↔ OthersNest (λ p. dart (a + p)) (λ p. tree (a + p)) (b - a)
  edges_nest = (
    λ nested. record {
      nest = λ p q r s pq qr rs l tp tq er es.
          let mp : mate p ≡ r = is_mate next node start dart tree first a b w p r (omega arith) (omega arith) tp er in
          let mq : mate q ≡ s = is_mate next node start dart tree first a b w q s (omega arith) l tq es in
          nested p q pq (omega arith) (omega arith) (omega arith);
    },
    λ others i j ij jl inside cross.
        let jm : mate j < b - a = (pairing next node start dart tree first a b w).in_range j jl in
        let ti = other i (omega arith) (omega arith) in
        let tj = other j jl (omega arith) in
        others.nest i j (mate i) (mate j) ij inside cross jm ti tj
        (mate_other next node start dart tree first a b w i (omega arith) ti) (mate_other next node start dart tree first a b w j jl tj),
  )

module _ (r : RotationRows) (is : IsRotation r) where
  -- one component
  pub component_nests : (start : ℕ) (dart : ℕ → ℕ) (tree first : ℕ → Bool) (a b : ℕ) → start < 2 * length r.edges → IsTreeWalk (next_dart r) (node_row r) start dart tree first a b
      → OthersNest (λ p. dart (a + p)) (λ p. tree (a + p)) (b - a) ↔ (is_plane_component (map_of_rotation r) (signed_edge r.edges start) ≡ true)
  component_nests start dart tree first a b h w =
      let m = map_of_rotation r in
      let ds = component m (signed_edge r.edges start) in
      let nests = nests_where_plane r is start h dart tree first a b w ds (λ d c. to_component r is start d h c) (λ d l on. from_component r is start d h l on) in
      let edges = edges_nest (next_dart r) (node_row r) start dart tree first a b w in (
        λ others. eq-eqb (node_count m ds + ring_count m ds) (edge_count m ds + 2) (nests.0 (edges.1 others)),
        λ plane. edges.0 (nests.1 (eqb-true (node_count m ds + ring_count m ds) (edge_count m ds + 2) plane)),
      )

  -- the same by any signed edge of the component
  part_nests : (c : ℤ) → has_edge (signed_edges (map_of_rotation r)) c ≡ true → (start : ℕ) (dart : ℕ → ℕ) (tree first : ℕ → Bool) (a b : ℕ) → start < 2 * length r.edges
      → has_edge (component (map_of_rotation r) c) (signed_edge r.edges start) ≡ true → IsTreeWalk (next_dart r) (node_row r) start dart tree first a b
      → OthersNest (λ p. dart (a + p)) (λ p. tree (a + p)) (b - a) ↔ (is_plane_component (map_of_rotation r) c ≡ true)
  part_nests c there start dart tree first a b h on w =
      let m = map_of_rotation r in
      let ds = component m c in
      let same = (component_parts (own_rows r) is.rotation).same c (signed_edge r.edges start) there on in
      let nests = nests_where_plane r is start h dart tree first a b w ds (λ d k. sym (same (signed_edge r.edges d)) ∙ to_component r is start d h k)
      (λ d l k. from_component r is start d h l (same (signed_edge r.edges d) ∙ k)) in
      let edges = edges_nest (next_dart r) (node_row r) start dart tree first a b w in (
        λ others. eq-eqb (node_count m ds + ring_count m ds) (edge_count m ds + 2) (nests.0 (edges.1 others)),
        λ plane. edges.0 (nests.1 (eqb-true (node_count m ds + ring_count m ds) (edge_count m ds + 2) plane)),
      )

  module _ (starts : List ℕ) (are : AreComponentStarts r starts) (darts : List ℕ) (tree first : List Bool) (places : List ℕ)
      (t : IsTour (length r.edges) (next_dart r) (node_row r) starts darts tree first places) where
    abbrev begin : ℕ → ℕ
    begin i = number_at places i

    Walk_nests : ℕ → Type 0
    Walk_nests i = OthersNest (λ p. number_at darts (begin i + p)) (λ p. flag_at tree (begin i + p)) (begin (i + 1) - begin i)

    ends_within : (i : ℕ) → i < length starts → begin (i + 1) ≤ length darts
    ends_within i l =
        let up = places_up begin (length starts) (λ j k. (t.walks j k).some) (i + 1) (omega arith) in
        let e = t.ends in
        omega (arith, up, e)

    -- two edges that interleave do so in one walk
    in_one_walk : (p q u v : ℕ) → p < q → q < u → u < v → v < length darts → flag_at tree p ≡ false → flag_at tree q ≡ false
        → number_at darts u ≡ reverse_dart (number_at darts p) → number_at darts v ≡ reverse_dart (number_at darts q)
        → (i : ℕ) × (i < length starts) × (begin i ≤ u) × (u < begin (i + 1)) × (Walk_nests i → ⊥)
    unfolding Walk_nests
    in_one_walk p q u v pq qu uv l tp tq eu ev =
        let whole : p < begin (length starts) = (let e = t.ends in omega (arith, e)) in
        let i = place_in begin (length starts) p t.begins whole in
        let w = t.walks i.0 i.1 in
        let from : begin i.0 ≤ p = i.2 in
        let to : p < begin (i.0 + 1) = i.3 in
        let within = ends_within i.0 i.1 in
        let u2 = (w.members (reverse_dart (number_at darts p))).0 (reversed (number_at darts p) ((w.members (number_at darts p)).1 (p, from, to, refl))) in
        let u2_to : u2.0 < begin (i.0 + 1) = u2.2 in
        let is_u : u2.0 ≡ u = t.once u2.0 u (omega arith) (omega arith) (u2.3 ∙ sym eu) in
        let q_to : q < begin (i.0 + 1) = omega arith in
        let v2 = (w.members (reverse_dart (number_at darts q))).0 (reversed (number_at darts q) ((w.members (number_at darts q)).1 (q, omega arith, q_to, refl))) in
        let v2_to : v2.0 < begin (i.0 + 1) = v2.2 in
        let is_v : v2.0 ≡ v = t.once v2.0 v (omega arith) l (v2.3 ∙ sym ev) in
        let shift : (k : ℕ) → begin i.0 ≤ k → begin i.0 + (k - begin i.0) ≡ k = λ k ge. omega arith in
        let sp = shift p from in
        let sq = shift q (omega arith) in
        let su = shift u (omega arith) in
        let sv = shift v (omega arith) in (
          i.0,
          i.1,
          omega arith,
          omega arith,
          λ nested. nested.nest (p - begin i.0) (q - begin i.0) (u - begin i.0) (v - begin i.0) (omega arith) (omega arith) (omega arith) (omega arith)
              (ap (flag_at tree) sp ∙ tp) (ap (flag_at tree) sq ∙ tq)
              (ap (number_at darts) su ∙ eu ∙ ap (λ k. reverse_dart (number_at darts k)) (sym sp))
              (ap (number_at darts) sv ∙ ev ∙ ap (λ k. reverse_dart (number_at darts k)) (sym sq)),
        )

    all_nest : ((i : ℕ) → i < length starts → Walk_nests i) → OthersNest (number_at darts) (flag_at tree) (length darts)
    all_nest each = record {
      nest = λ p q u v pq qu uv l tp tq eu ev. let i = in_one_walk p q u v pq qu uv l tp tq eu ev in i.4 (each i.0 i.1);
    }

    one_nests : OthersNest (number_at darts) (flag_at tree) (length darts) → (i : ℕ) → i < length starts → Walk_nests i
    unfolding Walk_nests
    one_nests all i l =
        let within = ends_within i l in
        record { nest = λ p q u v pq qu uv k. all.nest (begin i + p) (begin i + q) (begin i + u) (begin i + v) (omega arith) (omega arith) (omega arith) (omega arith) }

    pub nests_exactly_where_plane : OthersNest (number_at darts) (flag_at tree) (length darts) ↔ IsTrue (is_plane (map_of_rotation r))
    unfolding Walk_nests
    nests_exactly_where_plane =
        let m = map_of_rotation r in (
          λ nested. all_from same_edges (is_plane_component m) (components m) (λ c c_in.
              let there = (from_filter same_edges (λ d. same_edge d (smallest d (component m d))) (signed_edges m) c c_in).1 in
              let k = dart_there r is c there in
              let i = are.each (dart_of r.edges c) k.0 in
              let h = are.below i.0 i.1 in
              let start_in = signed_there (own_rows r) (number_at starts i.0) h in
              let holds : has_edge (component m (signed_edge r.edges (number_at starts i.0))) c ≡ true = subst (λ z. has_edge (component m (signed_edge r.edges (number_at starts i.0))) z ≡ true) k.1 i.2 in
              let on = component_back (own_rows r) is.rotation (signed_edge r.edges (number_at starts i.0)) c start_in holds in
              (part_nests c there (number_at starts i.0) (number_at darts) (flag_at tree) (flag_at first) (begin i.0) (begin (i.0 + 1)) h on (t.walks i.0 i.1)).0 (one_nests nested i.0 i.1)),
          λ plane. all_nest (λ i l.
              let h = are.below i l in
              let c = its_component (own_rows r) is.rotation (signed_edge r.edges (number_at starts i)) (signed_there (own_rows r) (number_at starts i) h) in
              (part_nests c.0 (from_filter same_edges (λ d. same_edge d (smallest d (component m d))) (signed_edges m) c.0 c.1).1 (number_at starts i) (number_at darts) (flag_at tree) (flag_at first) (begin i) (begin (i + 1)) h c.2 (t.walks i l)).1
              (among same_edges (is_plane_component m) (components m) c.0 plane c.1)),
        )

    -- the component of an edge of a crossing is not plane
    pub crossed_not_plane : (closing : ℕ) → IsFirstCrossing (number_at darts) (flag_at tree) (length darts) closing
        → is_plane_component (map_of_rotation r) (pos (edge_of (signed_edge r.edges closing))) ≡ false
    unfolding Walk_nests
    crossed_not_plane closing f =
        let m = map_of_rotation r in
        let d = signed_edge r.edges closing in
        let i = in_one_walk f.begin f.later_begin f.end f.later_end f.crossing.later f.crossing.before f.ends_later f.within f.crossing.other f.crossing.other_later f.crossing.closes f.closes_later in
        let h = are.below i.0 i.1 in
        let w = t.walks i.0 i.1 in
        let inside = (w.members closing).1 (f.end, i.2, i.3, sym f.closed) in
        let below = component_below (length r.edges) (next_dart r) (node_row r) (numbered_system r is).rotation (number_at starts i.0) closing h inside in
        let start = signed_edge r.edges (number_at starts i.0) in
        let start_in = signed_there (own_rows r) (number_at starts i.0) h in
        let d_in = signed_there (own_rows r) closing below in
        let back = component_back (own_rows r) is.rotation start d start_in (to_component r is (number_at starts i.0) closing h inside) in
        let c = pos (edge_of d) in
        let c_in : has_edge (signed_edges m) c ≡ true = signed-has m c ∙ sym (signed-has m d) ∙ d_in in
        let on : has_edge (component m c) start ≡ true = elim (positive d) [
          | inl e ↦ subst (λ z. has_edge (component m z) start ≡ true) (sym e) back
          | inr e ↦
              let own = component_own m c c_in in
              let has_d : has_edge (component m c) d ≡ true = sym (component-reverse (own_rows r) is.rotation c d c_in) ∙ subst (λ z. has_edge (component m c) z ≡ true) e own in
              sym ((component_parts (own_rows r) is.rotation).same c d c_in has_d start) ∙ back
        ] in
        false_from_ne_true (is_plane_component m c) (λ plane.
        i.4 ((part_nests c c_in (number_at starts i.0) (number_at darts) (flag_at tree) (flag_at first) (begin i.0) (begin (i.0 + 1)) h on w).1 plane))

    -- so where all are plane there is none
    pub never_crossed : IsTrue (is_plane (map_of_rotation r)) → (closing : ℕ) → IsFirstCrossing (number_at darts) (flag_at tree) (length darts) closing → ⊥
    never_crossed plane closing f =
        (nests_exactly_where_plane.1 plane).nest f.begin f.later_begin f.end f.later_end f.crossing.later f.crossing.before f.ends_later f.within f.crossing.other f.crossing.other_later f.crossing.closes f.closes_later
