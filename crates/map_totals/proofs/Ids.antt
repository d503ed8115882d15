-- The nodes and faces of a file's map are those that the file names, in another order: so sums over them agree.
use Rattle.std.specs.Prelude.{not, filter, map, slice_index, unwrap_or, sum_by}
use Rattle.std.proofs.Common.{◌≡◌, ℕ, ◌<◌, Bool, true, List, length, refl, ap, sym, ◌∙◌, arith, ◌==◌}
use Rattle.std.proofs.lemmas.Bool.{ne_eqb, or_right}
use Rattle.std.proofs.lemmas.List.Sorted.{sum_by-IsPermutation}
use Rattle.plane_model.specs.declared.rows.NodeRow.{NodeRow}
use Rattle.plane_model.specs.declared.rows.FaceRow.{FaceRow}
use Rattle.plane_model.specs.Sets.{has, rising}
use Rattle.plane_model.specs.Rotation.{is_face}
use Rattle.plane_model.specs.Answers.{has_node}
use Rattle.plane_model.proofs.Sorting.{rising-has, rising-permutation}
use Rattle.id_names.specs.Names.{number_of}
use Rattle.file_laws.specs.Contents.{Contents}
use Rattle.file_laws.specs.MapOfFile.{node_row, rows_of_contents}
use Rattle.file_laws.specs.Lawful.{is_whole}
use Rattle.file_laws.proofs.Lists.{keys_kept, has-index, index-has}
use Rattle.file_laws.proofs.Whole.{WholeParts, whole_parts}
use Rattle.file_laws.proofs.Rotation.{face_ids, face_there}
use Rattle.file_laws.proofs.FiveCounts.{kept_all}
use Rattle.navigate.specs.Bound.{map_with}
use Rattle.navigate.proofs.Facts.{node_test}

-- a sum does not depend on the order
sum_rising : (f : ℕ → ℕ) (xs : List ℕ) → sum_by f (rising xs) ≡ sum_by f xs
sum_rising f xs = sum_by-IsPermutation f xs (rising xs) (rising-permutation xs)

pub nodes_sum : (c : Contents) (f : ℕ → ℕ) → sum_by f (map_with c).nodes.keys ≡ sum_by f c.nodes
nodes_sum c f =
    let ids = map (λ (r : NodeRow). r.id) (rows_of_contents c).nodes in
    let named : ids ≡ rising c.nodes = keys_kept (λ (r : NodeRow). r.id) (λ id. node_row c id (unwrap_or (number_of c.nodes id) 0)) (λ x. refl) (rising c.nodes) in
    sum_rising f ids ∙ ap (sum_by f) named ∙ sum_rising f c.nodes

pub node_there : (c : Contents) (k : ℕ) → k < length c.nodes → has_node (map_with c) (slice_index c.nodes k) ≡ true
node_there c k l = sym (node_test c (slice_index c.nodes k)) ∙ has-index c.nodes k l

module _ (c : Contents) (h : is_whole c ≡ true) where
  w : WholeParts c
  w = whole_parts c h

  -- no face of a file is face 0
  nonzero : (f : ℕ) → has (rising c.faces) f ≡ true → not (f == 0) ≡ true
  nonzero f there =
      let i = index-has c.faces f (sym (rising-has c.faces f) ∙ there) in
      let low = (w.face_names.in_range i.0 i.1).0 in
      ap not (ne_eqb f 0 (λ e. absurd (omega (arith, low, i.2, e))))

  pub faces_sum : (f : ℕ → ℕ) → sum_by f (map_with c).faces ≡ sum_by f c.faces
  faces_sum f =
      let ids = map (λ (r : FaceRow). r.id) (rows_of_contents c).faces in
      let test : ℕ → Bool = λ g. not (g == 0) in
      sum_rising f (filter test ids) ∙ ap (λ xs. sum_by f (filter test xs)) (face_ids c w) ∙ ap (sum_by f) (kept_all test (rising c.faces) nonzero) ∙ sum_rising f c.faces

  pub face_known : (k : ℕ) → k < length c.faces → is_face (map_with c) (slice_index c.faces k) ≡ true
  face_known k l = or_right (slice_index c.faces k == 0) _ (face_there c w k l)
