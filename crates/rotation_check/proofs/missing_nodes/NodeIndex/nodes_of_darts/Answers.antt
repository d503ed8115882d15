use Rattle.std.proofs.Common.{rules, ap, sym, ◌∙◌}
use Rattle.std.proofs.lemmas.Option.{get_or_from_slice_get, slice_get_within}
use Rattle.plane_model.specs.Faults.{no_node}
use Rattle.plane_model.specs.PlaneMap.{map_of}
use Rattle.plane_model.specs.Rows.{rows_of}
use Rattle.plane_model.proofs.RotationFaults.{edge_ids}
use Rattle.rotation_check.proofs.FirstIn.{first_in-here}
use Rattle.rotation_check.proofs.Numbering.{nodes_step, nodes_done}
use Rattle.rotation_check.proofs.missing_nodes.NodeIndex.nodes_of_darts.Goals as goal

pub loop-row-preserved : goal.loop-row-preserved
loop-row-preserved c =
    nodes_step (rows_of c.args.self.now.tables.now) c.loop-row.row c.loop-row.nodes.items c.push.new.self.items c.push-in-loop-row.new.self.items c.in_ok-start.start c.in_ok-start.end c.row.result
    c.requires.distinct (edge_ids (rows_of c.args.self.now.tables.now) c.requires.in_range) c.row.ensures c.in_ok-start.ensures.start c.in_ok-start.ensures.end
    c.in_ok-start.ensures.fault c.in_ok-push.ensures.items c.in_ok-push-2.ensures.items c.loop-row.invariant

pub returns-clause-nodes : goal.returns-clause-nodes
returns-clause-nodes c =
    nodes_done (rows_of c.args.self.now.tables.now) c.loop-row.row c.len-row-end.result c.loop-row.nodes.items c.len-row-end.ensures c.loop-row-test.false c.loop-row.auto.row-end
    c.loop-row.invariant

pub returns-in_err-start-clause-fault : goal.returns-in_err-start-clause-fault
returns-in_err-start-clause-fault c =
    let edges = c.args.self.now.tables.now.edges in
    let edge = c.row.result in
    let fault = no_node (map_of (rows_of c.args.self.now.tables.now)) in
    let here = first_in-here fault edges c.loop-row.row edge c.in_err-start.field-0.0 (slice_get_within edges c.loop-row.row edge c.row.ensures)
    (ap fault (get_or_from_slice_get edges c.loop-row.row edge edge c.row.ensures) ∙ c.in_err-start.ensures.fault) in
    search (rules, sym c.loop-row.invariant.rest ∙ here)
