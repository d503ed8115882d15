use Rattle.std.proofs.Common.{rules, ◌≡◌, true, false, sym, ◌∙◌}
use Rattle.plane_model.specs.InRange.{is_edge_in_range}
use Rattle.plane_model.proofs.RowsLeft.{row_left}
use Rattle.worked_maps.proofs.in_range.are_edges_in_range.Goals as goal

pub returns-then-not-is_edge_in_range : goal.returns-then-not-is_edge_in_range
returns-then-not-is_edge_in_range c =
    let left = row_left c.args.edges.now c.loop-row.row c.row.result c.row.ensures in
    let no : is_edge_in_range c.row.result ≡ false = sym c.is_edge_in_range.ensures ∙ search rules in
    rw (left, no) at c.loop-row.invariant

pub loop-row-preserved : goal.loop-row-preserved
loop-row-preserved c =
    let left = row_left c.args.edges.now c.loop-row.row c.row.result c.row.ensures in
    let yes : is_edge_in_range c.row.result ≡ true = sym c.is_edge_in_range.ensures ∙ search rules in
    rw (left, yes) at c.loop-row.invariant
