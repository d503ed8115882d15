-- What tables with distinct ids from 1 on give: signed edges that rise, and faces without 0.
use Rattle.std.proofs.Common.{◌≡◌, ℕ, Bool, true, false, ◌&&◌, List, [], ◌∷◌, map, refl, ◌∙◌, arith}
use Rattle.std.specs.Prelude.{nat_lt, nat_le}
use Rattle.std.specs.List.{list_all}
use Rattle.std.proofs.lemmas.Bool.{and_parts, and_from, lt-ltb, leb-true, false_from_ne_true}
use Rattle.topo_base.specs.declared.id.TheConstants.{LARGEST_ID}
use Rattle.plane_model.specs.declared.rows.EdgeRow.{EdgeRow}
use Rattle.plane_model.specs.Rows.{Rows}
use Rattle.plane_model.specs.Sets.{has}
use Rattle.plane_model.specs.PlaneMap.{map_of, signed_edges}
use Rattle.plane_model.specs.Rotation.{is_rotation, is_rotation_system, has_faces}
use Rattle.plane_model.specs.InRange.{is_in_range, is_edge_in_range}
use Rattle.plane_model.specs.Faces.{is_labelled}
use Rattle.plane_model.specs.Orders.{is_rising_edges}
use Rattle.plane_model.proofs.Sorting.{rising-all, rising_strictly}
use Rattle.plane_model.proofs.SortedEdges.{signed_edges_rise}
use Rattle.plane_model.proofs.OneOuterRing.{face_not_0}
use Rattle.placement_laws.specs.Placing.{IsLabelledRotation}

ids_of : (es : List EdgeRow) → list_all (λ e. nat_lt 0 e.id) es ≡ true → list_all (nat_lt 0) (map (λ e. e.id) es) ≡ true
ids_of [] h = refl
ids_of (e ∷ es) h = let parts = and_parts (nat_lt 0 e.id) (list_all (λ e. nat_lt 0 e.id) es) h in and_from (nat_lt 0 e.id) (list_all (nat_lt 0) (map (λ e. e.id) es)) parts.0 (ids_of es parts.1)

pub rise_of : (t : Rows) → IsLabelledRotation t → is_rising_edges (signed_edges (map_of t)) ≡ true
rise_of t h = signed_edges_rise (map_of t) (rising_strictly (map (λ e. e.id) t.edges) h.edges) (rising-all (nat_lt 0) (map (λ e. e.id) t.edges) ∙ ids_of t.edges h.ids)

-- tables that are in range

-- the first and the second of two tests
first : (x y : Bool) → (x && y) ≡ true → x ≡ true
first x y h = (and_parts x y h).0

second : (x y : Bool) → (x && y) ≡ true → y ≡ true
second x y h = (and_parts x y h).1

positive : (n k : ℕ) → (nat_le 1 n && nat_le n k) ≡ true → nat_lt 0 n ≡ true
positive n k h = let le = leb-true 1 n (first (nat_le 1 n) (nat_le n k) h) in lt-ltb 0 n (omega arith)

id_in_range : (e : EdgeRow) → is_edge_in_range e ≡ true → nat_lt 0 e.id ≡ true
id_in_range e h = positive e.id LARGEST_ID (first _ _ (first _ _ (first _ _ (first _ _ (first _ _ (first _ _ h))))))

ids_in_range : (es : List EdgeRow) → list_all is_edge_in_range es ≡ true → list_all (λ e. nat_lt 0 e.id) es ≡ true
ids_in_range [] h = refl
ids_in_range (e ∷ es) h = let parts = and_parts (is_edge_in_range e) (list_all is_edge_in_range es) h in and_from (nat_lt 0 e.id) (list_all (λ e. nat_lt 0 e.id) es) (id_in_range e parts.0) (ids_in_range es parts.1)

pub labelled_rotation_of : (t : Rows) → is_in_range t ≡ true → is_rotation_system t ≡ true → is_labelled (map_of t) ≡ true → IsLabelledRotation t
labelled_rotation_of t range system labelled =
    let parts = first _ (has_faces (map_of t)) system in
    let ids = first _ (is_rotation (map_of t)) parts in
    record {
      edges = second _ _ (first _ _ ids);
      ids = ids_in_range t.edges (second _ _ (first _ _ (first _ _ (first _ _ (first _ _ (first _ _ (first _ _ (first _ _ (first _ _ range)))))))));
      faces = second _ _ ids;
      rotation = second _ (is_rotation (map_of t)) parts;
      labelled = labelled;
    }

pub face_0_none : (t : Rows) → has (map_of t).faces 0 ≡ false
face_0_none t = false_from_ne_true (has (map_of t).faces 0) (λ h. face_not_0 t 0 h refl)
