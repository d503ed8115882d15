use Rattle.std.proofs.Common.{rules, ◌≡◌, ◌&&◌, true, false, sym, ◌∙◌}
use Rattle.plane_model.specs.InRange.{is_face_id, is_id, is_none_or}
use Rattle.plane_model.proofs.RowsLeft.{row_left}
use Rattle.worked_maps.proofs.in_range.are_nodes_in_range.Goals as goal

pub returns-then-not-is_node_in_range : goal.returns-then-not-is_node_in_range
returns-then-not-is_node_in_range c =
    let left = row_left c.args.nodes.now c.loop-row.row c.row.result c.row.ensures in
    let no : (is_id c.row.result.id && is_none_or is_face_id c.row.result.face) ≡ false = sym c.is_node_in_range.ensures ∙ search rules in
    rw (left, no) at c.loop-row.invariant

pub loop-row-preserved : goal.loop-row-preserved
loop-row-preserved c =
    let left = row_left c.args.nodes.now c.loop-row.row c.row.result c.row.ensures in
    let yes : (is_id c.row.result.id && is_none_or is_face_id c.row.result.face) ≡ true = sym c.is_node_in_range.ensures ∙ search rules in
    rw (left, yes) at c.loop-row.invariant
