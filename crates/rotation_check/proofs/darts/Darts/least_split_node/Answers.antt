use Rattle.std.proofs.Common.{◌∙◌, sym, arith, true, false}
use Rattle.plane_model.specs.Rows.{rows_of}
use Rattle.rotation_check.proofs.SplitNodes.{is_split_at, node_ids_of, least_step, least_kept, split_node_none, split_node_some, id_of_row, split_at_row}
use Rattle.rotation_check.proofs.darts.Darts.least_split_node.Goals as goal
use Rattle.rotation_check.proofs.darts.Darts.least_split_node.Goals.{then-is_split, else-is_split}

pub loop-row-preserved : goal.loop-row-preserved
loop-row-preserved c =
    let t = rows_of c.args.self.now.tables.now in
    let k = c.loop-row.row in
    elim c.if-is_split.branch [
      | then-is_split w ↦
          least_step (is_split_at t) (node_ids_of t) k c.loop-row.least c.if-is_split.least _ w.lesser_of.result (split_at_row t k true c.is_split.result c.is_split.ensures w.if-is_split.true)
          (id_of_row t k w.row.result w.row.ensures) w.lesser_of.ensures w.least-is c.loop-row.invariant
      | else-is_split w ↦
          least_kept (is_split_at t) (node_ids_of t) k c.loop-row.least c.if-is_split.least (split_at_row t k false c.is_split.result c.is_split.ensures w.if-is_split.false) w.least-is c.loop-row.invariant
    ]

pub returns-in_err-node : goal.returns-in_err-node
returns-in_err-node c =
    let t = rows_of c.args.self.now.tables.now in
    let l = c.len-row-end.ensures in
    c.from_residual.ensures ∙ sym (split_node_none t c.loop-row.row c.loop-row.least (omega (arith, l)) c.in_err-node.was c.loop-row.invariant)

pub returns : goal.returns
returns c =
    let t = rows_of c.args.self.now.tables.now in
    let l = c.len-row-end.ensures in
    sym (split_node_some t c.loop-row.row c.loop-row.least c.in_ok-node.node (omega (arith, l)) c.in_ok-node.was c.loop-row.invariant)
