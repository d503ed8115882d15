use Rattle.std.proofs.Common.{◌≡◌, ◌∙◌, ℕ, subst, sym, map, List, None, refl}
use Rattle.std.specs.Prelude.{option_map}
use Rattle.std.proofs.lemmas.Result.{err_from_is_err_and, on_ok_weaker, IfErr-weaker}
use Rattle.plane_model.specs.declared.rows.FaceRow.{FaceRow}
use Rattle.plane_model.specs.declared.rows.RegionRow.{RegionRow}
use Rattle.plane_model.specs.Faults.{first_in, no_member_face, no_member_region}
use Rattle.rotation_check.specs.Checked.{Names}
use Rattle.region_tree.specs.Checked.{member_fault, missing_face}
use Rattle.region_tree.specs.Tables.{region_map, region_tables}
use Rattle.region_tree.proofs.RowFaults.{regions-fault, faces-fault}
use Rattle.region_tree.proofs.RegionRows.{second_three, third_three, last_one, names_first}
use Rattle.region_tree.proofs.members.check_members.Goals as goal
use Rattle.region_tree.proofs.members.check_members.Goals.{After-refuse-2}

abbrev ids_of : List FaceRow → List ℕ
ids_of faces = map (λ (f : FaceRow). f.id) faces

pub returns-in_err-refuse-clause-refused : goal.returns-in_err-refuse-clause-refused
returns-in_err-refuse-clause-refused c =
    let p = err_from_is_err_and c.from_residual.result c.from_residual.ensures.1 in
    let e = c.in_err-refuse.field-0.0 in
    rw (p.1, p.2) (λ regions is. names_first e _ _ (subst (Names e) (c.first_missing_region.ensures ∙ regions-fault (region_tables regions c.args.members.now c.args.faces.now) c.args.ids.now is c.args.members.now) c.in_err-refuse.ensures.refused))

pub returns-in_err-check_faces-clause-refused : goal.returns-in_err-check_faces-clause-refused
returns-in_err-check_faces-clause-refused c =
    let p = err_from_is_err_and c.from_residual-in_err-check_faces.result c.from_residual-in_err-check_faces.ensures.1 in
    let e = c.in_err-check_faces.field-0.0 in
    let members = c.args.members.now in
    let faces = c.args.faces.now in
    rw (p.1, p.2) (λ regions is.
    let t = region_tables regions members faces in
    let fine = sym (c.first_missing_region.ensures ∙ regions-fault t c.args.ids.now is members) ∙ c.in_ok-refuse.ensures.fine in
    subst (Names e) (sym (second_three _ _ _ fine)) (names_first e _ _ (subst (Names e) (faces-fault t (ids_of faces) refl members) c.in_err-check_faces.ensures.refused)))

last : (c : After-refuse-2) (regions : List RegionRow) → c.args.ids.now ≡ (region_map regions c.args.members.now c.args.faces.now).regions.keys
    → member_fault (region_tables regions c.args.members.now c.args.faces.now) ≡ c.in_ok-repeated_face.field-0
last c regions is =
    let members = c.args.members.now in
    let faces = c.args.faces.now in
    let t = region_tables regions members faces in
    let fine = sym (c.first_missing_region.ensures ∙ regions-fault t c.args.ids.now is members) ∙ c.in_ok-refuse.ensures.fine in
    let there = sym (faces-fault t (ids_of faces) refl members) ∙ c.in_ok-check_faces.ensures.fine in
    third_three _ _ _ fine there ∙ last_one _ ∙ sym c.in_ok-repeated_face.ensures

pub returns-clause-fine : goal.returns-clause-fine
returns-clause-fine c =
    let done : c.in_ok-repeated_face.field-0 ≡ None → (regions : List RegionRow) → c.args.ids.now ≡ (region_map regions c.args.members.now c.args.faces.now).regions.keys
    → member_fault (region_tables regions c.args.members.now c.args.faces.now) ≡ None = λ none regions is. last c regions is ∙ none in
    on_ok_weaker c.refuse-2.result done c.refuse-2.ensures.fine

pub returns-clause-refused : goal.returns-clause-refused
returns-clause-refused c =
    IfErr-weaker c.refuse-2.result (λ e. Names e c.in_ok-repeated_face.field-0)
    (λ e. (regions : List RegionRow) → c.args.ids.now ≡ (region_map regions c.args.members.now c.args.faces.now).regions.keys → Names e (member_fault (region_tables regions c.args.members.now c.args.faces.now)))
    (λ e named regions is. subst (Names e) (sym (last c regions is)) named) c.refuse-2.ensures.refused
