use Rattle.std.proofs.Common.{◌≡◌, List, None, rules, subst, ◌∙◌}
use Rattle.plane_model.specs.declared.rows.FaceRow.{FaceRow}
use Rattle.plane_model.specs.Rows.{rows_of}
use Rattle.plane_model.specs.Faults.{first_fault, placement_fault}
use Rattle.rotation_check.specs.Checked.{Names}
use Rattle.islands.specs.Placed.{map_with_faces}
use Rattle.islands.proofs.Regardless.{faces_of_checked}
use Rattle.map_build.proofs.Checks.{rotation_none, names_parts, names_places, no_fault, outer_darts_are, outer_faces_are}
use Rattle.map_build.proofs.checked.place_components.Goals as goal

pub returns-in_err-parts-clause-refused : goal.returns-in_err-parts-clause-refused
returns-in_err-parts-clause-refused c =
    let t = rows_of c.args.tables.now in
    let none = rotation_none t c.requires.in_range c.requires.system in
    let named : Names c.in_err-parts.field-0.0 (first_fault t) = names_parts c.args.rotation.now t c.in_err-parts.field-0.0 c.requires.nodes c.requires.edges none c.in_err-parts.ensures.refused in
    search rules

pub returns-in_err-placement-clause-refused : goal.returns-in_err-placement-clause-refused
returns-in_err-placement-clause-refused c =
    let t = rows_of c.args.tables.now in
    let r = c.args.rotation.now in
    let none = rotation_none t c.requires.in_range c.requires.system in
    let P : List FaceRow → Type 0 = λ faces. Names c.in_err-placement.field-0.0 (placement_fault (map_with_faces r faces)) in
    let named : Names c.in_err-placement.field-0.0 (first_fault t) =
    names_places r t c.in_err-placement.field-0.0 c.requires.nodes c.requires.edges none c.in_ok-parts.ensures.fine (subst P c.deref.ensures.value c.in_err-placement.ensures.refused) in
    search rules

pub returns-clause-consistent : goal.returns-clause-consistent
returns-clause-consistent c =
    let t = rows_of c.args.tables.now in
    let r = c.args.rotation.now in
    let P : List FaceRow → Type 0 = λ faces. placement_fault (map_with_faces r faces) ≡ None in
    no_fault r t c.requires.nodes c.requires.edges c.requires.in_range c.requires.system c.in_ok-parts.ensures.fine (subst P c.deref.ensures.value c.in_ok-placement.ensures.fine)

pub place-requires-clause-faces : goal.place-requires-clause-faces
place-requires-clause-faces c = faces_of_checked c.args.rotation.now c.deref.result.now (rows_of c.args.tables.now) c.requires.system c.requires.nodes c.requires.edges c.deref.ensures.value

pub returns-clause-starts : goal.returns-clause-starts
returns-clause-starts c = outer_darts_are c.args.rotation.now (rows_of c.args.tables.now) c.deref.result.now c.in_ok-placement.placement.starts c.requires.nodes c.requires.edges c.deref.ensures.value c.in_ok-placement.ensures.starts

pub returns-clause-faces : goal.returns-clause-faces
returns-clause-faces c = c.in_ok-placement.ensures.containing ∙ outer_faces_are c.args.rotation.now (rows_of c.args.tables.now) c.deref.result.now c.requires.nodes c.requires.edges c.deref.ensures.value
