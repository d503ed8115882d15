-- What a dart's row says.
use Rattle.std.proofs.lemmas.Bool.{ne_eqb}
use Rattle.plane_model.specs.Rows.{Rows}
use Rattle.std.proofs.Common.{◌≡◌, ℕ, ◌/◌, ◌%◌, pos, neg_ℤ, List, [], refl, ap, ◌∙◌, Some, eq-eqb}
use Rattle.std.specs.Prelude.{slice_get}
use Rattle.plane_model.specs.declared.rows.EdgeRow.{EdgeRow}
use Rattle.plane_model.specs.PlaneMap.{side}
use Rattle.plane_model.proofs.Lookups.{row_of-forward, row_of-backward, is_backward, positive_id}
use Rattle.rotation_check.specs.Darts.{RotationRows, IsRotation, map_of_rotation, signed_edge}

signed_forward : (edges : List EdgeRow) (dart : ℕ) (e : EdgeRow) → slice_get edges (dart / 2) ≡ Some e → dart % 2 ≡ 0 → signed_edge edges dart ≡ pos e.id
signed_forward edges dart e h even = rw (h, eq-eqb (dart % 2) 0 even) refl

signed_backward : (edges : List EdgeRow) (dart : ℕ) (e : EdgeRow) → slice_get edges (dart / 2) ≡ Some e → (dart % 2 ≡ 0 → ⊥) → signed_edge edges dart ≡ neg_ℤ (pos e.id)
signed_backward edges dart e h odd = rw (h, ne_eqb (dart % 2) 0 odd) refl

rows : RotationRows → Rows
rows r = record { nodes = r.nodes; edges = r.edges; faces = []; regions = []; members = [] }

pub side_forward : (r : RotationRows) (dart : ℕ) (e : EdgeRow) → IsRotation r → slice_get r.edges (dart / 2) ≡ Some e → dart % 2 ≡ 0 → side (map_of_rotation r) (signed_edge r.edges dart) ≡ e.left_face
unfolding rows
side_forward r dart e is h even =
    ap (side (map_of_rotation r)) (signed_forward r.edges dart e h even) ∙ ap (λ x. x.left_face) (row_of-forward (rows r) (dart / 2) e is.edges h)

pub side_backward : (r : RotationRows) (dart : ℕ) (e : EdgeRow) → IsRotation r → slice_get r.edges (dart / 2) ≡ Some e → (dart % 2 ≡ 0 → ⊥) → side (map_of_rotation r) (signed_edge r.edges dart) ≡ e.right_face
unfolding rows
side_backward r dart e is h odd =
    ap (side (map_of_rotation r)) (signed_backward r.edges dart e h odd)
    ∙ rw (is_backward e.id (positive_id r.edges (dart / 2) e is.ids h)) (ap (λ x. x.right_face) (row_of-backward (rows r) (dart / 2) e is.edges h))
