-- The map of whole contents has as many nodes, edges, faces and components as the contents.
use Rattle.std.specs.Prelude.{map, filter, not, unwrap_or}
use Rattle.std.proofs.Common.{◌≡◌, ℕ, ◌==◌, Bool, true, List, [], ◌∷◌, length, refl, ap, sym, ◌∙◌, arith}
use Rattle.std.proofs.lemmas.Bool.{or_left, or_right, eq-eqb, ne_eqb}
use Rattle.std.proofs.lemmas.List.FromFn.{length-map-range_with_len}
use Rattle.orbits.proofs.Lists.{same_length}
use Rattle.plane_model.specs.declared.rows.NodeRow.{NodeRow}
use Rattle.plane_model.specs.declared.rows.FaceRow.{FaceRow}
use Rattle.plane_model.specs.Sets.{rising, has}
use Rattle.plane_model.specs.PlaneMap.{PlaneMap, map_of}
use Rattle.plane_model.specs.Component.{components}
use Rattle.plane_model.specs.Faces.{outer_rings}
use Rattle.plane_model.proofs.SetLaws.{same_edges}
use Rattle.plane_model.proofs.OuterRings.{Shells}
use Rattle.plane_model.proofs.OneOuterRing.{placed_map, placed_shells, outer_rings-length}
use Rattle.code_laws.specs.Code.{start_of}
use Rattle.id_names.specs.Names.{number_of}
use Rattle.file_laws.specs.Contents.{Contents, component_count}
use Rattle.file_laws.specs.MapOfFile.{signed_at, node_row, rows_of_contents}
use Rattle.file_laws.specs.Agreement.{starts_of}
use Rattle.file_laws.specs.Lawful.{is_whole}
use Rattle.file_laws.specs.Counted.{HasCounts}
use Rattle.file_laws.proofs.Lists.{keys_kept, length-rising, index-has}
use Rattle.plane_model.proofs.Sorting.{rising-has}
use Rattle.file_laws.proofs.Whole.{WholeParts, whole_parts}
use Rattle.file_laws.proofs.Rotation.{face_ids}
use Rattle.file_laws.proofs.Placed.{placing}
use Rattle.file_laws.proofs.Consistent.{consistent_of, outer_of}
use Rattle.file_laws.proofs.Sizes.{edges_many, regions_many}

-- a filter that all pass
pub kept_all : (p : ℕ → Bool) (xs : List ℕ) → ((x : ℕ) → has xs x ≡ true → p x ≡ true) → filter p xs ≡ xs
kept_all p [] each = refl
kept_all p (x ∷ xs) each =
    let here = each x (or_left _ _ (eq-eqb x x refl)) in
    let more = kept_all p xs (λ y there. each y (or_right _ _ there)) in
    rw here (ap (λ ys. x ∷ ys) more)

module _ (c : Contents) (h : is_whole c ≡ true) where
  abbrev m : PlaneMap
  m = map_of (rows_of_contents c)

  w : WholeParts c
  w = whole_parts c h

  nodes_many : length m.nodes.keys ≡ length c.nodes
  nodes_many =
      let keys = keys_kept (λ (r : NodeRow). r.id) (λ id. node_row c id (unwrap_or (number_of c.nodes id) 0)) (λ x. refl) (rising c.nodes) in
      length-rising (map (λ (r : NodeRow). r.id) (rows_of_contents c).nodes) ∙ ap length keys ∙ length-rising c.nodes

  -- no face of a file is face 0
  nonzero : (f : ℕ) → has (rising c.faces) f ≡ true → not (f == 0) ≡ true
  nonzero f there =
      let i = index-has c.faces f (sym (rising-has c.faces f) ∙ there) in
      let low = (w.face_names.in_range i.0 i.1).0 in
      ap not (ne_eqb f 0 (λ e. absurd (omega (arith, low, i.2, e))))

  faces_many : length m.faces ≡ length c.faces
  faces_many =
      let ids = map (λ (r : FaceRow). r.id) (rows_of_contents c).faces in
      let test : ℕ → Bool = λ f. not (f == 0) in
      length-rising (filter test ids) ∙ ap (λ xs. length (filter test xs)) (face_ids c w) ∙ ap length (kept_all test (rising c.faces) nonzero) ∙ length-rising c.faces

  components_many : length (components m) ≡ component_count c
  components_many =
      let ok = placed_map (rows_of_contents c) (consistent_of c h) in
      let shells : Shells m = placed_shells (rows_of_contents c) ok in
      let as_many = same_length same_edges (outer_rings m) (starts_of c) shells.outer_apart (placing c w).apart (λ r k. sym (outer_of c h r) ∙ k) (λ r k. outer_of c h r ∙ k) in
      sym (outer_rings-length (rows_of_contents c) ok) ∙ as_many ∙ length-map-range_with_len (λ j. signed_at c (start_of c.code j)) 0 (component_count c)

  pub counts_of_map : HasCounts c m
  counts_of_map = record { nodes = nodes_many; edges = edges_many c w; faces = faces_many; components = components_many; regions = regions_many c w }
