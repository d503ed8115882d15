-- What the row of a dart's edge says of its signed edge.
use Rattle.std.specs.Prelude.{pos, neg_ℤ, map, slice_get, Some}
use Rattle.std.proofs.Common.{◌≡◌, ℕ, zero, suc, ◌*◌, ◌/◌, ◌%◌, ◌<◌, ◌==◌, true, inl, inr, List, length, refl, ap, sym, ◌∙◌, arith}
use Rattle.std.proofs.lemmas.Bool.{cases_Bool}
use Rattle.std.proofs.lemmas.Option.{slice_get-get_or, unwrap_or-slice_get}
use Rattle.topo_base.specs.SignedEdge.{edge_of as edge_id, is_forward}
use Rattle.plane_model.specs.declared.rows.EdgeRow.{EdgeRow}
use Rattle.plane_model.specs.Rows.{Rows}
use Rattle.plane_model.specs.Sets.{is_distinct}
use Rattle.plane_model.specs.PlaneMap.{map_of, no_edge, origin, side}
use Rattle.plane_model.proofs.Lookups.{row_of-forward, row_of-backward, is_backward}
use Rattle.rotation_check.specs.Darts.{signed_edge}
use Rattle.map_build.specs.DartRows.{row_at, start_of_dart, face_of_dart}

there : (edges : List EdgeRow) (dart : ℕ) → dart < 2 * length edges → slice_get edges (dart / 2) ≡ Some (row_at edges dart)
there edges dart l =
    let inside : dart / 2 < length edges = omega (arith, l) in
    slice_get-get_or edges (dart / 2) no_edge inside ∙ ap Some (sym (unwrap_or-slice_get edges (dart / 2) no_edge))

neg_id : (n : ℕ) → edge_id (neg_ℤ (pos n)) ≡ n
neg_id zero = refl
neg_id (suc n) = refl

pub id_of_signed : (edges : List EdgeRow) (dart : ℕ) → edge_id (signed_edge edges dart) ≡ (row_at edges dart).id
id_of_signed edges dart = elim (cases_Bool (dart % 2 == 0)) [
  | inl e ↦ rw e refl
  | inr e ↦ rw e (neg_id (row_at edges dart).id)
]

pub forward_of_dart : (edges : List EdgeRow) (dart : ℕ) → 0 < (row_at edges dart).id → is_forward (signed_edge edges dart) ≡ (dart % 2 == 0)
forward_of_dart edges dart h = elim (cases_Bool (dart % 2 == 0)) [
  | inl e ↦ rw e refl
  | inr e ↦ rw e (is_backward (row_at edges dart).id h)
]

pub origin_of_dart : (t : Rows) (dart : ℕ) → is_distinct (map (λ e. e.id) t.edges) ≡ true → dart < 2 * length t.edges → 0 < (row_at t.edges dart).id → origin (map_of t) (signed_edge t.edges dart) ≡ start_of_dart t.edges dart
origin_of_dart t dart distinct l h =
    let at = there t.edges dart l in
    let row = row_at t.edges dart in
    elim (cases_Bool (dart % 2 == 0)) [
      | inl e ↦ rw e (ap (λ x. x.start) (row_of-forward t (dart / 2) row distinct at))
      | inr e ↦ rw (e, is_backward row.id h) (ap (λ x. x.end) (row_of-backward t (dart / 2) row distinct at))
    ]

pub side_of_dart : (t : Rows) (dart : ℕ) → is_distinct (map (λ e. e.id) t.edges) ≡ true → dart < 2 * length t.edges → 0 < (row_at t.edges dart).id → side (map_of t) (signed_edge t.edges dart) ≡ face_of_dart t.edges dart
side_of_dart t dart distinct l h =
    let at = there t.edges dart l in
    let row = row_at t.edges dart in
    elim (cases_Bool (dart % 2 == 0)) [
      | inl e ↦ rw e (ap (λ x. x.left_face) (row_of-forward t (dart / 2) row distinct at))
      | inr e ↦ rw (e, is_backward row.id h) (ap (λ x. x.right_face) (row_of-backward t (dart / 2) row distinct at))
    ]
