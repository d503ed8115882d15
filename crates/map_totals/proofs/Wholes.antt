-- The totals of a file's map by the ids that the file names, and what they may read.
use Rattle.std.specs.Prelude.{sum_by}
use Rattle.std.proofs.Common.{◌≡◌, ℕ, ◌+◌, ◌*◌, ◌<◌, ◌≤◌, ◌^◌, true, length, ap, ◌∙◌, arith}
use Rattle.std.proofs.lemmas.List.Sums.{sum_by-cons}
use Rattle.plane_model.specs.PlaneMap.{PlaneMap}
use Rattle.plane_model.specs.Lists.{node_edges, face_edges, adjacent}
use Rattle.file_laws.specs.Contents.{Contents}
use Rattle.file_laws.specs.Lawful.{is_whole}
use Rattle.file_laws.proofs.FiveCounts.{counts_of_map}
use Rattle.navigate.specs.Bound.{map_with}
use Rattle.map_totals.specs.Totals.{face_total, node_total, adjacent_total, face_words, node_words, adjacent_words, most_face_words, most_node_words, most_adjacent_words, id_words}
use Rattle.map_totals.proofs.Ids.{nodes_sum, faces_sum}
use Rattle.map_totals.proofs.Few.{sum-few, faces-few, nodes-few, node-few, face-few, across-few}

-- so many small numbers have a sum that fits
fits : (n k : ℕ) → n ≤ 16777216 → k ≤ n * 67108864 → k + 67108864 < 2 ^ 63
fits n k few small = omega (arith, few, small)

module _ (c : Contents) (h : is_whole c ≡ true) where
  abbrev m : PlaneMap
  m = map_with c

  pub face_total_is : face_total m ≡ length (face_edges m 0) + sum_by (λ f. length (face_edges m f)) c.faces
  unfolding face_total
  face_total_is = sum_by-cons (λ f. length (face_edges m f)) 0 m.faces ∙ ap (λ n. length (face_edges m 0) + n) (faces_sum c h (λ f. length (face_edges m f)))

  pub face_words_are : most_face_words m ≡ face_words m 0 + sum_by (λ f. id_words (length c.faces) + face_words m f) c.faces
  unfolding most_face_words
  face_words_are = ap (λ n. face_words m 0 + n) (faces_sum c h (λ f. id_words (length m.faces) + face_words m f) ∙ ap (λ n. sum_by (λ f. id_words n + face_words m f) c.faces) (counts_of_map c h).faces)

  pub node_total_is : node_total m ≡ sum_by (λ n. length (node_edges m n)) c.nodes
  unfolding node_total
  node_total_is = nodes_sum c (λ n. length (node_edges m n))

  pub node_words_are : most_node_words m ≡ sum_by (λ n. id_words (length c.nodes) + node_words m n) c.nodes
  unfolding most_node_words
  node_words_are = nodes_sum c (λ n. id_words (length m.nodes.keys) + node_words m n) ∙ ap (λ k. sum_by (λ n. id_words k + node_words m n) c.nodes) (counts_of_map c h).nodes

  pub adjacent_total_is : adjacent_total m ≡ length (adjacent m 0) + sum_by (λ f. length (adjacent m f)) c.faces
  unfolding adjacent_total
  adjacent_total_is = sum_by-cons (λ f. length (adjacent m f)) 0 m.faces ∙ ap (λ n. length (adjacent m 0) + n) (faces_sum c h (λ f. length (adjacent m f)))

  pub adjacent_words_are : most_adjacent_words m ≡ adjacent_words m 0 + sum_by (λ f. id_words (length c.faces) + adjacent_words m f) c.faces
  unfolding most_adjacent_words
  adjacent_words_are = ap (λ n. adjacent_words m 0 + n) (faces_sum c h (λ f. id_words (length m.faces) + adjacent_words m f) ∙ ap (λ n. sum_by (λ f. id_words n + adjacent_words m f) c.faces) (counts_of_map c h).faces)

  -- none of the totals overflows
  pub face_total_fits : face_total m < 2 ^ 63
  face_total_fits =
      let all = face_total_is in
      let first = face-few c h 0 in
      let more = fits (length c.faces) (sum_by (λ f. length (face_edges m f)) c.faces) (faces-few c h) (sum-few (λ f. length (face_edges m f)) 67108864 c.faces (face-few c h)) in
      omega (arith, all, first, more)

  pub node_total_fits : node_total m < 2 ^ 63
  node_total_fits =
      let all = node_total_is in
      let more = fits (length c.nodes) (sum_by (λ n. length (node_edges m n)) c.nodes) (nodes-few c h) (sum-few (λ n. length (node_edges m n)) 67108864 c.nodes (node-few c h)) in
      omega (arith, all, more)

  pub adjacent_total_fits : adjacent_total m < 2 ^ 63
  adjacent_total_fits =
      let all = adjacent_total_is in
      let first = across-few c h 0 in
      let more = fits (length c.faces) (sum_by (λ f. length (adjacent m f)) c.faces) (faces-few c h) (sum-few (λ f. length (adjacent m f)) 67108864 c.faces (across-few c h)) in
      omega (arith, all, first, more)
