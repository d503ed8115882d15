use Rattle.std.proofs.Common.{rules, ap, sym, ◌∙◌}
use Rattle.std.proofs.lemmas.Option.{get_or_from_slice_get, slice_get_within}
use Rattle.plane_model.specs.Rows.{rows_of}
use Rattle.plane_model.specs.PlaneMap.{map_of}
use Rattle.plane_model.specs.Faults.{no_containing_face}
use Rattle.rotation_check.proofs.FirstIn.{first_in-found, first_in-further}
use Rattle.rotation_check.proofs.missing_faces.FaceIndex.first_missing_container.Goals as goal

pub returns-then-is_some : goal.returns-then-is_some
returns-then-is_some c =
    let nodes = c.args.self.now.tables.now.nodes in
    let node = c.row.result in
    let fault = no_containing_face (map_of (rows_of c.args.self.now.tables.now)) in
    first_in-found fault nodes c.loop-row.row node c.missing_container-fault.result _ (slice_get_within nodes c.loop-row.row node c.row.ensures)
    (c.missing_container-fault.ensures ∙ ap fault (sym (get_or_from_slice_get nodes c.loop-row.row node node c.row.ensures))) (search rules) c.loop-row.invariant

pub loop-row-preserved : goal.loop-row-preserved
loop-row-preserved c =
    let nodes = c.args.self.now.tables.now.nodes in
    let node = c.row.result in
    let fault = no_containing_face (map_of (rows_of c.args.self.now.tables.now)) in
    first_in-further fault nodes c.loop-row.row node c.missing_container-fault.result _ (slice_get_within nodes c.loop-row.row node c.row.ensures)
    (c.missing_container-fault.ensures ∙ ap fault (sym (get_or_from_slice_get nodes c.loop-row.row node node c.row.ensures))) (search rules) c.loop-row.invariant
