use Rattle.std.proofs.Common.{rules, ap, sym, ◌∙◌}
use Rattle.std.proofs.lemmas.Option.{get_or_from_slice_get, slice_get_within}
use Rattle.plane_model.specs.Rows.{rows_of}
use Rattle.plane_model.specs.PlaneMap.{map_of}
use Rattle.plane_model.specs.Faults.{no_face}
use Rattle.rotation_check.proofs.FirstIn.{first_in-found, first_in-further}
use Rattle.rotation_check.proofs.missing_faces.FaceIndex.first_missing_side.Goals as goal

pub returns-then-is_some : goal.returns-then-is_some
returns-then-is_some c =
    let edges = c.args.self.now.tables.now.edges in
    let edge = c.row.result in
    let fault = no_face (map_of (rows_of c.args.self.now.tables.now)) in
    first_in-found fault edges c.loop-row.row edge c.missing_side-fault.result _ (slice_get_within edges c.loop-row.row edge c.row.ensures)
    (c.missing_side-fault.ensures ∙ ap fault (sym (get_or_from_slice_get edges c.loop-row.row edge edge c.row.ensures))) (search rules) c.loop-row.invariant

pub loop-row-preserved : goal.loop-row-preserved
loop-row-preserved c =
    let edges = c.args.self.now.tables.now.edges in
    let edge = c.row.result in
    let fault = no_face (map_of (rows_of c.args.self.now.tables.now)) in
    first_in-further fault edges c.loop-row.row edge c.missing_side-fault.result _ (slice_get_within edges c.loop-row.row edge c.row.ensures)
    (c.missing_side-fault.ensures ∙ ap fault (sym (get_or_from_slice_get edges c.loop-row.row edge edge c.row.ensures))) (search rules) c.loop-row.invariant
