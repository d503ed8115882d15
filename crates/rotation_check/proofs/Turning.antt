-- Darts the other way, and round their node.
use Rattle.std.proofs.Common.{◌≡◌, ℕ, ◌+◌, ◌-◌, ◌*◌, ◌/◌, ◌%◌, ◌<◌, inl, inr, true, List, [], length, refl, sym, ap, ◌∙◌, arith, eq-eqb}
use Rattle.std.specs.Prelude.{slice_index}
use Rattle.std.proofs.lemmas.Bool.{cases_eq, ne_eqb}
use Rattle.topo_base.specs.SignedEdge.{reverse}
use Rattle.plane_model.specs.declared.rows.EdgeRow.{EdgeRow}
use Rattle.plane_model.specs.Rows.{Rows}
use Rattle.plane_model.specs.PlaneMap.{map_of, next, turn}
use Rattle.plane_model.specs.Rotation.{is_rotation, is_rotation_system, has_faces}
use Rattle.plane_model.proofs.RotationOrbits.{reverse-reverse}
use Rattle.std.proofs.lemmas.Bool.{and_parts}
use Rattle.plane_model.proofs.Alone.{rotation-alone}
use Rattle.rotation_check.specs.Darts.{AreDarts, AreNexts, AreNodes, IsRotation, map_of_rotation, reverse_dart, rotation_rows, signed_edge}
use Rattle.rotation_check.proofs.Ranges.{in_range, edge_ids_are, ids_positive, ids_small}

pub reverse-within : (edges : List EdgeRow) (dart : ℕ) → dart < 2 * length edges → reverse_dart dart < 2 * length edges
reverse-within edges dart h = elim (cases_eq (dart % 2) 0) [
  | inl e ↦ rw (eq-eqb (dart % 2) 0 e) (omega arith)
  | inr ne ↦ rw (ne_eqb (dart % 2) 0 ne) (omega arith)
]

-- the dart the other way is that of the signed edge the other way
pub signed-reverse_dart : (edges : List EdgeRow) (dart : ℕ) → signed_edge edges (reverse_dart dart) ≡ reverse (signed_edge edges dart)
signed-reverse_dart edges dart = elim (cases_eq (dart % 2) 0) [
  | inl e ↦
      let half : (dart + 1) / 2 ≡ dart / 2 = omega arith in
      let odd : (dart + 1) % 2 ≡ 0 → ⊥ = λ z. omega arith in
      rw (eq-eqb (dart % 2) 0 e, half, ne_eqb ((dart + 1) % 2) 0 odd) refl
  | inr ne ↦
      let half : (dart - 1) / 2 ≡ dart / 2 = omega arith in
      let even : (dart - 1) % 2 ≡ 0 = omega arith in
      rw (ne_eqb (dart % 2) 0 ne, half, eq-eqb ((dart - 1) % 2) 0 even) (sym (reverse-reverse _))
]

pub turn_is : (edges : List EdgeRow) (nexts : List ℕ) (dart : ℕ) → AreNexts edges nexts → dart < 2 * length edges
    → signed_edge edges (slice_index nexts (reverse_dart dart)) ≡ turn (map_of_rotation (record { nodes = []; edges = edges })) (signed_edge edges dart)
turn_is edges nexts dart are h =
    (are.1 (reverse_dart dart) (reverse-within edges dart h)).1 ∙ ap (λ d. next (map_of_rotation (record { nodes = []; edges = edges })) d) (signed-reverse_dart edges dart)

-- the rows of tables that are a rotation system are a rotation
pub rotation_from : (t : Rows) (nexts rows : List ℕ) → AreDarts t nexts rows → is_rotation_system t ≡ true → IsRotation (rotation_rows t) × AreNexts t.edges nexts × AreNodes t.nodes t.edges rows
rotation_from t nexts rows darts system =
    let a = and_parts _ (has_faces (map_of t)) system in
    let b = and_parts _ (is_rotation (map_of t)) a.0 in
    let range = in_range t darts.in_range in
    let ids = edge_ids_are t darts.in_range in
    let own : IsRotation (rotation_rows t) =
    record {
      nodes = darts.node_ids;
      edges = darts.edge_ids;
      ids = ids_positive t.edges ids;
      largest = ids_small t.edges ids;
      rotation = rotation-alone t ∙ b.1;
      few_edges = range.edge_rows;
      few_nodes = range.node_rows;
    } in (own, darts.next_darts, darts.node_rows)
