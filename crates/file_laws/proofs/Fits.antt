-- The rows of nodes and edges of whole contents are in range.
use Rattle.std.specs.Prelude.{nat_lt, slice_index, unwrap_or, if◌then◌else◌}
use Rattle.std.proofs.Common.{◌≡◌, ℕ, ◌-◌, ◌<◌, ◌≤◌, inl, inr, true, ◌&&◌, length, refl, sym, arith, subst, ◌==◌}
use Rattle.std.proofs.lemmas.Bool.{cases_Bool, and_from, le-leb, lt-ltb}
use Rattle.topo_base.specs.SignedEdge.{edge_of as edge_id, is_signed_edge}
use Rattle.topo_base.specs.declared.id.TheConstants.{LARGEST_ID}
use Rattle.plane_model.specs.InRange.{is_id, is_face_id, is_none_or, is_edge_in_range}
use Rattle.code_laws.specs.Code.{mate, next, component_count as code_components}
use Rattle.code_laws.specs.Numbers.{edge_of, node_of, ring_of}
use Rattle.code_laws.proofs.Edges.{laws, edge_there}
use Rattle.code_laws.proofs.Beside.{next_ring}
use Rattle.code_laws.proofs.Selects.{node_within}
use Rattle.id_names.specs.Names.{number_of}
use Rattle.file_laws.specs.Contents.{Contents, component_count}
use Rattle.file_laws.specs.MapOfFile.{signed_at, node_at, face_at, face_at_place, place_of_ring, is_forward_at, forward_position, node_row, edge_row, joined_count}
use Rattle.file_laws.proofs.Lists.{id_fits, id_small}
use Rattle.file_laws.proofs.Bridge.{signed, signed-id, e_in, forward_at}
use Rattle.file_laws.proofs.Whole.{WholeParts}

module _ (c : Contents) (w : WholeParts c) where
  -- a face by its place is in range
  pub face_small : (place : ℕ) → face_at_place c place ≤ LARGEST_ID
  face_small place =
      elim (cases_Bool (place == 0)) [
        | inl e ↦ rw e (omega arith)
        | inr e ↦ rw e (id_small c.faces w.face_names (place - 1))
      ]

  pub components_same : code_components c.code ≡ component_count c
  components_same = let e = w.sizes.starts in omega (arith, e)

  pub node_in : (p : ℕ) → p < length c.code.a → node_of c.code p < length c.nodes
  node_in p l =
      let b = node_within c.code w.seen.sound p l in
      let e = w.sizes.nodes in
      let k = components_same in
      omega (arith, b, e, k)

  node_fits : (p : ℕ) → p < length c.code.a → is_id (node_at c p) ≡ true
  unfolding node_at
  node_fits p l = id_fits c.nodes w.node_names (node_of c.code p) (node_in p l)

  face_fits : (p : ℕ) → is_face_id (face_at c p) ≡ true
  unfolding face_at
  face_fits p = le-leb _ _ (face_small (place_of_ring c (ring_of c.code p)))

  signed_fits : (p : ℕ) → p < length c.code.a → is_signed_edge (signed_at c p) ≡ true
  unfolding signed_at
  signed_fits p l =
      let id = slice_index c.edges (edge_of c.code p) in
      let r = w.edge_names.in_range (edge_of c.code p) (e_in c w.seen p l) in
      let last : id ≤ LARGEST_ID = omega (arith, r.1) in
      let e : edge_id (signed (is_forward_at c p) id) ≡ id = signed-id (is_forward_at c p) id in
      rw e (and_from _ _ (lt-ltb _ _ (omega (arith, r.0))) (le-leb _ _ last))

  -- the forward position of an edge
  pub forward_in : (e : ℕ) → e < length c.edges → forward_position c e < length c.code.a
  forward_in e l =
      let s = w.sizes.positions in
      let t = edge_there c.code w.seen.sound e (omega (arith, l, s)) in
      let k = laws c.code w.seen.sound t.0 t.1 in
      let at = forward_at c w.seen t.0 t.1 in
      let here : (if is_forward_at c t.0 then t.0 else mate c.code t.0) < length c.code.a =
      elim (cases_Bool (is_forward_at c t.0)) [ inl f ↦ rw f t.1 | inr f ↦ rw f k.within ] in
      subst (λ x. forward_position c x < length c.code.a) t.3 (subst (λ x. x < length c.code.a) (sym at) here)

  pub edge_fits : (x : ℕ) → x < length c.edges → is_edge_in_range (edge_row c (slice_index c.edges x) (unwrap_or (number_of c.edges (slice_index c.edges x)) 0)) ≡ true
  edge_fits x l =
      let found = w.seen.back x l in
      let p = forward_position c x in
      let p_in = forward_in x l in
      let q_in = (laws c.code w.seen.sound p p_in).within in
      let n = next_ring c.code w.seen.sound p p_in in
      let m = next_ring c.code w.seen.sound (mate c.code p) q_in in
      rw found
      (and_from _ _ (and_from _ _ (and_from _ _ (and_from _ _ (and_from _ _ (and_from _ _ (id_fits c.edges w.edge_names x l) (node_fits p p_in)) (node_fits (mate c.code p) q_in))
      (signed_fits (next c.code p) n.0)) (signed_fits (next c.code (mate c.code p)) m.0)) (face_fits p)) (face_fits (mate c.code p)))

  pub node_row_fits : (x : ℕ) → x < length c.nodes → (n : ℕ) → (is_id (node_row c (slice_index c.nodes x) n).id && is_none_or is_face_id (node_row c (slice_index c.nodes x) n).face) ≡ true
  node_row_fits x l n =
      and_from _ _ (id_fits c.nodes w.node_names x l)
      (elim (cases_Bool (nat_lt n (joined_count c))) [
        | inl e ↦ rw e refl
        | inr e ↦ rw e (le-leb _ _ (face_small (slice_index c.isolated (n - joined_count c))))
      ])
