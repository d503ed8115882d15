use Rattle.std.proofs.Common.{rules, ◌≡◌, ◌∙◌, ap, subst, sym, true}
use Rattle.topo_base.specs.SignedEdge.{is_signed_edge}
use Rattle.plane_model.specs.Faults.{no_edge_row}
use Rattle.plane_model.specs.PlaneMap.{map_of, no_edge}
use Rattle.plane_model.specs.Rows.{rows_of}
use Rattle.plane_model.proofs.RotationFaults.{edge_ids}
use Rattle.std.proofs.lemmas.Option.{get_or_from_slice_get, slice_get_within}
use Rattle.rotation_check.proofs.FirstIn.{first_in-here}
use Rattle.rotation_check.proofs.Numbering.{nexts_step, nexts_done}
use Rattle.rotation_check.proofs.Ranges.{edge_at, in_range}
use Rattle.rotation_check.proofs.missing_edges.EdgeIndex.nexts_of_darts.Goals as goal

pub darts_of_nexts-requires-clause-few : goal.darts_of_nexts-requires-clause-few
darts_of_nexts-requires-clause-few c = (in_range (rows_of c.args.self.now.tables.now) c.requires.in_range).edge_rows

pub darts_of_nexts-requires-clause-left : goal.darts_of_nexts-requires-clause-left
darts_of_nexts-requires-clause-left c =
    let edges = c.args.self.now.tables.now.edges in
    let i = c.loop-row.row in
    subst (λ e. is_signed_edge e.next_left ≡ true) (get_or_from_slice_get edges i c.row.result no_edge c.row.ensures)
    (edge_at (rows_of c.args.self.now.tables.now) i c.requires.in_range (slice_get_within edges i c.row.result c.row.ensures)).left

pub darts_of_nexts-requires-clause-right : goal.darts_of_nexts-requires-clause-right
darts_of_nexts-requires-clause-right c =
    let edges = c.args.self.now.tables.now.edges in
    let i = c.loop-row.row in
    subst (λ e. is_signed_edge e.next_right ≡ true) (get_or_from_slice_get edges i c.row.result no_edge c.row.ensures)
    (edge_at (rows_of c.args.self.now.tables.now) i c.requires.in_range (slice_get_within edges i c.row.result c.row.ensures)).right

pub loop-row-preserved : goal.loop-row-preserved
loop-row-preserved c =
    nexts_step (rows_of c.args.self.now.tables.now) c.loop-row.row c.loop-row.nexts.items c.push.new.self.items c.push-in-loop-row.new.self.items c.in_ok-left.left c.in_ok-left.right c.row.result
    c.requires.distinct (edge_ids (rows_of c.args.self.now.tables.now) c.requires.in_range) c.row.ensures c.in_ok-left.ensures.left c.in_ok-left.ensures.right
    c.in_ok-left.ensures.fault c.in_ok-push.ensures.items c.in_ok-push-2.ensures.items c.loop-row.invariant

pub returns-clause-nexts : goal.returns-clause-nexts
returns-clause-nexts c =
    nexts_done (rows_of c.args.self.now.tables.now) c.loop-row.row c.len-row-end.result c.loop-row.nexts.items c.len-row-end.ensures c.loop-row-test.false c.loop-row.auto.row-end
    c.loop-row.invariant

pub returns-in_err-left-clause-fault : goal.returns-in_err-left-clause-fault
returns-in_err-left-clause-fault c =
    let edges = c.args.self.now.tables.now.edges in
    let edge = c.row.result in
    let fault = no_edge_row (map_of (rows_of c.args.self.now.tables.now)) in
    let here = first_in-here fault edges c.loop-row.row edge c.in_err-left.field-0.0 (slice_get_within edges c.loop-row.row edge c.row.ensures)
    (ap fault (get_or_from_slice_get edges c.loop-row.row edge edge c.row.ensures) ∙ c.in_err-left.ensures.fault) in
    search (rules, sym c.loop-row.invariant.rest ∙ here)
