use Rattle.std.specs.Prelude.{drop}
use Rattle.std.proofs.Common.{◌+◌, length}
use Rattle.plane_model.specs.Lists.{face_edges}
use Rattle.pemb_file.specs.Served.{contents_of_view}
use Rattle.navigate.specs.Bound.{served_map}
use Rattle.map_totals.specs.Totals.{face_total, face_words, most_face_words, id_words}
use Rattle.map_totals.proofs.Summing.{IsSummed}
use Rattle.map_totals.proofs.sums.sum_faces.Given as goal

abbrev pub invariant-loop-number : goal.invariant-loop-number
invariant-loop-number g l =
    let m = served_map l.fn.served in
    IsSummed (λ f. length (face_edges m f)) (λ x. id_words (length (contents_of_view l.fn.served).faces) + face_words m x) (drop l.number (contents_of_view l.fn.served).faces) (face_total m) l.fn.steps (l.fn.steps + most_face_words m) l.total l.steps
