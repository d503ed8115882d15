use Rattle.std.proofs.Common.{◌≡◌, ◌∙◌, ap, subst, sym, true}
use Rattle.std.proofs.lemmas.Result.{err_from_is_err_and}
use Rattle.plane_model.specs.Rows.{rows_of}
use Rattle.plane_model.specs.Rotation.{is_rotation_system}
use Rattle.rotation_check.specs.Checked.{Names, orbit_fault}
use Rattle.rotation_check.proofs.Parts.{last_part, no_part}
use Rattle.rotation_check.proofs.checking.check.Goals as goal

pub returns-in_err-check_orbits-clause-refused : goal.returns-in_err-check_orbits-clause-refused
returns-in_err-check_orbits-clause-refused c =
    let p = err_from_is_err_and c.from_residual-in_err-check_orbits.result c.from_residual-in_err-check_orbits.ensures.1 in
    let t = rows_of c.args.tables.now in
    let is = ap (λ tables. orbit_fault (rows_of tables)) c.in_ok-darts.ensures.tables ∙ sym (last_part t c.in_ok-darts.ensures.fine c.in_ok-check_faces.ensures.fine) in
    rw (p.1, p.2) (subst (Names c.in_err-check_orbits.field-0.0) is c.in_err-check_orbits.ensures.refused)

pub new-requires-clause-system : goal.new-requires-clause-system
new-requires-clause-system c =
    let t = rows_of c.args.tables.now in
    let is = c.in_ok-darts.ensures.tables in
    let fine = sym (ap (λ tables. orbit_fault (rows_of tables)) is) ∙ c.in_ok-check_orbits.ensures.fine in
    subst (λ tables. is_rotation_system (rows_of tables) ≡ true) (sym is) (no_part t c.requires c.in_ok-darts.ensures.fine c.in_ok-check_faces.ensures.fine fine)

pub returns-clause-system : goal.returns-clause-system
returns-clause-system c =
    let t = rows_of c.args.tables.now in
    let is = c.in_ok-darts.ensures.tables in
    let fine = sym (ap (λ tables. orbit_fault (rows_of tables)) is) ∙ c.in_ok-check_orbits.ensures.fine in
    no_part t c.requires c.in_ok-darts.ensures.fine c.in_ok-check_faces.ensures.fine fine
