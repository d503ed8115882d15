use Rattle.std.specs.Prelude.{drop}
use Rattle.std.proofs.Common.{◌+◌, length}
use Rattle.plane_model.specs.Lists.{node_edges}
use Rattle.pemb_file.specs.Served.{contents_of_view}
use Rattle.navigate.specs.Bound.{served_map}
use Rattle.map_totals.specs.Totals.{node_total, node_words, most_node_words, id_words}
use Rattle.map_totals.proofs.Summing.{IsSummed}
use Rattle.map_totals.proofs.sums.sum_nodes.Given as goal

abbrev pub invariant-loop-number : goal.invariant-loop-number
invariant-loop-number g l =
    let m = served_map l.fn.served in
    IsSummed (λ n. length (node_edges m n)) (λ x. id_words (length (contents_of_view l.fn.served).nodes) + node_words m x) (drop l.number (contents_of_view l.fn.served).nodes) (node_total m) l.fn.steps (l.fn.steps + most_node_words m) l.total l.steps
