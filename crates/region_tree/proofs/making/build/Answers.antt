use Rattle.std.proofs.Common.{◌≡◌, ◌≤◌, ◌∙◌, ap, subst, sym, length, map, arith, None, [], refl, true}
use Rattle.std.specs.Prelude.{IfErr}
use Rattle.std.specs.List.Sorted.{IsNonDecreasing}
use Rattle.std.proofs.lemmas.Result.{err_from_is_err_and}
use Rattle.plane_model.specs.Sets.{or_else}
use Rattle.plane_model.specs.Regions.{is_region_forest}
use Rattle.plane_model.specs.Faults.{region_fault}
use Rattle.plane_model.proofs.AllFaults.{none-region_fault}
use Rattle.rotation_check.specs.Checked.{Names}
use Rattle.region_tree.specs.ByPlace.{AreByPlace}
use Rattle.region_tree.specs.Checked.{nesting_fault, member_fault}
use Rattle.region_tree.specs.Numbering.{RegionsAreNumbered, AreMembers}
use Rattle.region_tree.specs.Parts.{member_places, region_ids}
use Rattle.region_tree.specs.Ready.{IsReady}
use Rattle.region_tree.specs.Tables.{region_map, region_tables}
use Rattle.region_tree.proofs.RegionRows.{names_first}
use Rattle.region_tree.proofs.Built.{fault-parts, few_faces, few_members, ids_few, ids_rise, no_fault, forest_from, is_ready}
use Rattle.region_tree.proofs.GivenBack.{regions_back, members_given_back}
use Rattle.region_tree.proofs.making.build.Goals as goal
use Rattle.region_tree.proofs.making.build.Goals.{In_ok-check_members}

pub returns-in_err-hierarchy-clause-refused : goal.returns-in_err-hierarchy-clause-refused
returns-in_err-hierarchy-clause-refused c =
    let p = err_from_is_err_and c.from_residual.result c.from_residual.ensures.1 in
    let e = c.in_err-hierarchy.field-0.0 in
    rw (p.1, p.2) (subst (Names e) (sym (fault-parts c.args.regions.now c.args.members.now c.args.faces.now)) (names_first e _ _ c.in_err-hierarchy.ensures.refused))

pub check_members-requires-clause-few : goal.check_members-requires-clause-few
check_members-requires-clause-few c =
    let l = ids_few c.args.regions.now c.args.members.now c.args.faces.now c.requires _ _ c.in_ok-hierarchy.ensures.regions in
    let e = ap length c.deref.ensures.value in
    omega (arith, l, e)

pub check_members-requires-clause-rising : goal.check_members-requires-clause-rising
check_members-requires-clause-rising c =
    subst IsNonDecreasing (sym c.deref.ensures.value) (ids_rise c.args.regions.now c.args.members.now c.args.faces.now _ _ c.in_ok-hierarchy.ensures.regions)

pub check_members-requires-clause-few_members : goal.check_members-requires-clause-few_members
check_members-requires-clause-few_members c = let l = few_members c.args.regions.now c.args.members.now c.args.faces.now c.requires in omega (arith, l)

pub check_members-requires-clause-few_faces : goal.check_members-requires-clause-few_faces
check_members-requires-clause-few_faces c = few_faces c.args.regions.now c.args.members.now c.args.faces.now c.requires

pub returns-in_err-check_members-clause-refused : goal.returns-in_err-check_members-clause-refused
returns-in_err-check_members-clause-refused c =
    let p = err_from_is_err_and c.from_residual-in_err-check_members.result c.from_residual-in_err-check_members.ensures.1 in
    let e = c.in_err-check_members.field-0.0 in
    let members = member_fault (region_tables c.args.regions.now c.args.members.now c.args.faces.now) in
    let is = fault-parts c.args.regions.now c.args.members.now c.args.faces.now ∙ ap (λ o. or_else o members) c.in_ok-hierarchy.ensures.fine in
    let keys = c.deref.ensures.value ∙ c.in_ok-hierarchy.ensures.regions.ids_are in
    rw (p.1, p.2) (subst (Names e) (sym is) (c.in_err-check_members.ensures.refused c.args.regions.now keys))

none : (c : In_ok-check_members) → region_fault (region_tables c.args.regions.now c.args.members.now c.args.faces.now) ≡ None
none c =
    let keys = c.deref.ensures.value ∙ c.in_ok-hierarchy.ensures.regions.ids_are in
    no_fault c.args.regions.now c.args.members.now c.args.faces.now c.in_ok-hierarchy.ensures.fine (c.in_ok-check_members.ensures.fine c.args.regions.now keys)

forest : (c : In_ok-check_members) → is_region_forest (region_tables c.args.regions.now c.args.members.now c.args.faces.now) ≡ true
forest c = forest_from c.args.regions.now c.args.members.now c.args.faces.now (none c)

ready : (c : In_ok-check_members) → IsReady (region_map c.args.regions.now c.args.members.now c.args.faces.now) c.in_ok-hierarchy.hierarchy.ids.items c.in_ok-hierarchy.hierarchy.parents.items c.args.members.now
ready c = is_ready c.args.regions.now c.args.members.now c.args.faces.now _ _ c.in_ok-hierarchy.ensures.regions (forest c)

pub number-requires-clause-few : goal.number-requires-clause-few
number-requires-clause-few c = ids_few c.args.regions.now c.args.members.now c.args.faces.now c.requires _ _ c.in_ok-hierarchy.ensures.regions

pub number-requires-clause-rising : goal.number-requires-clause-rising
number-requires-clause-rising c = ids_rise c.args.regions.now c.args.members.now c.args.faces.now _ _ c.in_ok-hierarchy.ensures.regions

pub number-requires-clause-ready : goal.number-requires-clause-ready
number-requires-clause-ready c = (region_map c.args.regions.now c.args.members.now c.args.faces.now, ready ((goal.at.number-requires-clause-ready c).In_ok-check_members))

pub returns-clause-forest : goal.returns-clause-forest
returns-clause-forest c = forest ((goal.at.returns-clause-forest c).In_ok-check_members)

pub returns-clause-fine : goal.returns-clause-fine
returns-clause-fine c = none ((goal.at.returns-clause-fine c).In_ok-check_members)

pub returns-clause-bits : goal.returns-clause-bits
returns-clause-bits c = c.in_ok-number.ensures.bits _ (ready ((goal.at.returns-clause-bits c).In_ok-check_members))

pub returns-clause-ids : goal.returns-clause-ids
returns-clause-ids c = c.in_ok-number.ensures.ids _ (ready ((goal.at.returns-clause-ids c).In_ok-check_members))

pub returns-clause-members : goal.returns-clause-members
returns-clause-members c = c.in_ok-number.ensures.members _ (ready ((goal.at.returns-clause-members c).In_ok-check_members))

pub returns-clause-numbered : goal.returns-clause-numbered
returns-clause-numbered c =
    let d = (goal.at.returns-clause-numbered c).In_ok-check_members in
    let m = region_map c.args.regions.now c.args.members.now c.args.faces.now in
    let bits = c.in_ok-number.field-0.bits.items in
    let back = regions_back (region_tables c.args.regions.now c.args.members.now c.args.faces.now) c.requires (forest d) in
    let by_bits = subst (λ b. RegionsAreNumbered m b (region_ids m)) (sym (c.in_ok-number.ensures.bits m (ready d))) back in
    subst (λ i. RegionsAreNumbered m bits i) (sym (c.in_ok-number.ensures.ids m (ready d))) by_bits

pub returns-clause-faces : goal.returns-clause-faces
returns-clause-faces c =
    let d = (goal.at.returns-clause-faces c).In_ok-check_members in
    let m = region_map c.args.regions.now c.args.members.now c.args.faces.now in
    let ids = c.in_ok-number.field-0.ids.items in
    let back = members_given_back (region_tables c.args.regions.now c.args.members.now c.args.faces.now) c.requires (forest d) in
    let by_ids = subst (λ i. AreMembers m i (member_places m)) (sym (c.in_ok-number.ensures.ids m (ready d))) back in
    subst (λ p. AreMembers m ids p) (sym (c.in_ok-number.ensures.members m (ready d))) by_ids

pub returns-in_err-hierarchy-clause-exactly : goal.returns-in_err-hierarchy-clause-exactly
returns-in_err-hierarchy-clause-exactly c = none-region_fault (region_tables c.args.regions.now c.args.members.now c.args.faces.now)

pub returns-in_err-check_members-clause-exactly : goal.returns-in_err-check_members-clause-exactly
returns-in_err-check_members-clause-exactly c = none-region_fault (region_tables c.args.regions.now c.args.members.now c.args.faces.now)

pub returns-in_err-number-clause-exactly : goal.returns-in_err-number-clause-exactly
returns-in_err-number-clause-exactly c = none-region_fault (region_tables c.args.regions.now c.args.members.now c.args.faces.now)

pub returns-clause-exactly : goal.returns-clause-exactly
returns-clause-exactly c = none-region_fault (region_tables c.args.regions.now c.args.members.now c.args.faces.now)
