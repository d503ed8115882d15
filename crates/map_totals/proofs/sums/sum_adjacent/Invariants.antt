use Rattle.std.specs.Prelude.{drop}
use Rattle.std.proofs.Common.{◌≡◌, ◌+◌, length}
use Rattle.plane_model.specs.Lists.{adjacent}
use Rattle.scratch_region.specs.Marks.{room_of, IsEmpty}
use Rattle.pemb_file.specs.Served.{contents_of_view}
use Rattle.navigate.specs.Bound.{served_map}
use Rattle.map_totals.specs.Totals.{adjacent_total, adjacent_words, most_adjacent_words, id_words}
use Rattle.map_totals.proofs.Summing.{IsSummed}
use Rattle.map_totals.proofs.sums.sum_adjacent.Given as goal

abbrev pub invariant-loop-number : goal.invariant-loop-number
invariant-loop-number g l =
    let m = served_map l.fn.served in
    (room_of l.marks ≡ room_of l.fn.marks) × IsEmpty l.marks
    × IsSummed (λ f. length (adjacent m f)) (λ x. id_words (length (contents_of_view l.fn.served).faces) + adjacent_words m x) (drop l.number (contents_of_view l.fn.served).faces) (adjacent_total m) l.fn.steps (l.fn.steps + most_adjacent_words m) l.total l.steps
