use Rattle.std.proofs.Common.{◌≡◌, ◌≤◌, ◌∙◌, ap, subst, sym, length, map, arith, None, Some, [], ◌∷◌}
use Rattle.std.specs.Prelude.{slice_index, option_map}
use Rattle.std.specs.List.Sorted.{IsNonDecreasing}
use Rattle.std.proofs.lemmas.Result.{err_from_is_err_and}
use Rattle.std.proofs.lemmas.List.{get_or_read}
use Rattle.topo_base.specs.declared.refusal.Refusal.TheVariants as refusal
use Rattle.topo_base.specs.declared.refusal.Table.TheVariants as table
use Rattle.plane_model.specs.declared.rows.RegionRow.{RegionRow}
use Rattle.plane_model.specs.Orders.{first_pair}
use Rattle.plane_model.specs.Faults.{first_in, id_twice, no_parent, region_cycle}
use Rattle.rotation_check.specs.Checked.{Names}
use Rattle.region_tree.specs.Ancestors.{AreParentNumbers}
use Rattle.region_tree.specs.ByPlace.{AreByPlace}
use Rattle.region_tree.specs.Places.{AreParentPlaces}
use Rattle.region_tree.specs.Checked.{missing_parent}
use Rattle.region_tree.specs.Tables.{region_map, region_tables}
use Rattle.region_tree.proofs.RegionRows.{SortedIds, few_rows, ids_few, ids_long, ids_rise, cycle-within, twice-read, missing-read, cycle-read, by_place, second_three, third_three, last_one, names_first}
use Rattle.region_tree.proofs.checking.check_regions.Goals as goal
use Rattle.region_tree.proofs.checking.check_regions.Goals.{In_ok-ids, In_ok-parents}

sorted : (c : In_ok-ids) → SortedIds c.args.regions.now c.in_ok-rows.rows.items c.in_ok-ids.ids.items
sorted c = record { same = c.in_ok-rows.ensures.same; up = c.in_ok-rows.ensures.rising; ids_are = c.in_ok-ids.ensures ∙ ap (map (λ (r : RegionRow). r.id)) c.deref.ensures.value }

few : (c : In_ok-ids) → length c.in_ok-ids.ids.items ≤ 16777216
few c = ids_few _ _ _ (sorted c) (few_rows c.args.regions.now c.requires)

pub first_missing_parent-requires-clause-few : goal.first_missing_parent-requires-clause-few
first_missing_parent-requires-clause-few c = let l = few ((goal.at.first_missing_parent-requires-clause-few c).In_ok-ids) in let e = ap length c.deref-3.ensures.value in omega (arith, l, e)

pub first_missing_parent-requires-clause-rising : goal.first_missing_parent-requires-clause-rising
first_missing_parent-requires-clause-rising c = subst IsNonDecreasing (sym c.deref-3.ensures.value) (ids_rise _ _ _ (sorted ((goal.at.first_missing_parent-requires-clause-rising c).In_ok-ids)))

pub parent_places-requires-clause-few : goal.parent_places-requires-clause-few
parent_places-requires-clause-few c = let l = few ((goal.at.parent_places-requires-clause-few c).In_ok-ids) in let e = ap length c.deref-4.ensures.value in omega (arith, l, e)

pub parent_places-requires-clause-rising : goal.parent_places-requires-clause-rising
parent_places-requires-clause-rising c = subst IsNonDecreasing (sym c.deref-4.ensures.value) (ids_rise _ _ _ (sorted ((goal.at.parent_places-requires-clause-rising c).In_ok-ids)))

once : (c : In_ok-parents) → SortedIds c.args.regions.now c.in_ok-rows.rows.items c.in_ok-ids.ids.items → id_twice table.Region (map (λ (r : RegionRow). r.id) c.args.regions.now) ≡ None
once c s = sym (twice-read _ _ _ s _ _ c.deref-2.ensures.value c.repeated_id.ensures) ∙ c.in_ok-refuse.ensures.fine

there : (c : In_ok-parents) → SortedIds c.args.regions.now c.in_ok-rows.rows.items c.in_ok-ids.ids.items → first_in (no_parent (region_map c.args.regions.now [] [])) c.args.regions.now ≡ None
there c s = sym (missing-read _ _ _ s _ _ c.deref-3.ensures.value c.first_missing_parent.ensures) ∙ c.in_ok-refuse-2.ensures.fine

are : (c : In_ok-parents) → SortedIds c.args.regions.now c.in_ok-rows.rows.items c.in_ok-ids.ids.items → AreByPlace (region_map c.args.regions.now [] []) c.in_ok-ids.ids.items c.in_ok-parents.parents.items
are c s =
    let rows = c.deref-5.ensures.value in
    let places = subst (λ ids. AreParentPlaces ids c.in_ok-rows.rows.items c.in_ok-parents.parents.items) c.deref-4.ensures.value (subst (λ xs. AreParentPlaces c.deref-4.result.now xs c.in_ok-parents.parents.items) rows c.in_ok-parents.ensures) in
    by_place _ _ _ s (once c s) c.in_ok-parents.parents.items places (there c s)

pub returns-in_err-refuse-clause-refused : goal.returns-in_err-refuse-clause-refused
returns-in_err-refuse-clause-refused c =
    let p = err_from_is_err_and c.from_residual-in_err-refuse.result c.from_residual-in_err-refuse.ensures.1 in
    let e = c.in_err-refuse.field-0.0 in
    let s = sorted ((goal.at.returns-in_err-refuse-clause-refused c).In_ok-ids) in
    rw (p.1, p.2) (names_first e _ _ (subst (Names e) (twice-read _ _ _ s _ _ c.deref-2.ensures.value c.repeated_id.ensures) c.in_err-refuse.ensures.refused))

pub returns-in_err-refuse-2-clause-refused : goal.returns-in_err-refuse-2-clause-refused
returns-in_err-refuse-2-clause-refused c =
    let p = err_from_is_err_and c.from_residual-in_err-refuse-2.result c.from_residual-in_err-refuse-2.ensures.1 in
    let e = c.in_err-refuse-2.field-0.0 in
    let s = sorted ((goal.at.returns-in_err-refuse-2-clause-refused c).In_ok-ids) in
    let fine = sym (twice-read _ _ _ s _ _ c.deref-2.ensures.value c.repeated_id.ensures) ∙ c.in_ok-refuse.ensures.fine in
    rw (p.1, p.2) (subst (Names e) (sym (second_three _ _ _ fine)) (names_first e _ _ (subst (Names e) (missing-read _ _ _ s _ _ c.deref-3.ensures.value c.first_missing_parent.ensures) c.in_err-refuse-2.ensures.refused)))

pub least_on_cycle-requires-clause-few : goal.least_on_cycle-requires-clause-few
least_on_cycle-requires-clause-few c =
    let at = goal.at.least_on_cycle-requires-clause-few c in
    let l = few (at.In_ok-ids) in
    let many = (are (at.In_ok-parents) (sorted (at.In_ok-ids))).many in
    let e = ap length c.deref-6.ensures.value in
    omega (arith, l, many, e)

pub least_on_cycle-requires-clause-places : goal.least_on_cycle-requires-clause-places
least_on_cycle-requires-clause-places c =
    let at = goal.at.least_on_cycle-requires-clause-places c in
    subst AreParentNumbers (sym c.deref-6.ensures.value) (are (at.In_ok-parents) (sorted (at.In_ok-ids))).places

pub index-requires : goal.index-requires
index-requires c =
    let at = goal.at.index-requires c in
    let w = cycle-within _ _ _ (are (at.In_ok-parents) (sorted (at.In_ok-ids))) _ _ c.in-Some.place c.deref-6.ensures.value c.in_ok-place.ensures c.in-Some.is in
    omega (arith, w, c.in_ok-ids.ids.ok.0)

pub returns-in-Some-clause-refused : goal.returns-in-Some-clause-refused
returns-in-Some-clause-refused c =
    let at = goal.at.returns-in-Some-clause-refused c in
    let s = sorted (at.In_ok-ids) in
    let by = are (at.In_ok-parents) s in
    let cycle = cycle-read _ _ _ by _ _ c.deref-6.ensures.value c.in_ok-place.ensures in
    let w = cycle-within _ _ _ by _ _ c.in-Some.place c.deref-6.ensures.value c.in_ok-place.ensures c.in-Some.is in
    let read = get_or_read c.in_ok-ids.ids.items c.in-Some.place _ w c.index.ensures 0 in
    third_three _ _ _ (once (at.In_ok-parents) s) (there (at.In_ok-parents) s) ∙ last_one _ ∙ cycle ∙ ap (option_map (λ k. refusal.RegionCycle (slice_index c.in_ok-ids.ids.items k))) c.in-Some.is ∙ ap (λ x. Some (refusal.RegionCycle x)) (sym read)

pub returns-clause-regions : goal.returns-clause-regions
returns-clause-regions c = let at = goal.at.returns-clause-regions c in are (at.In_ok-parents) (sorted (at.In_ok-ids))

pub returns-clause-fine : goal.returns-clause-fine
returns-clause-fine c =
    let at = goal.at.returns-clause-fine c in
    let s = sorted (at.In_ok-ids) in
    let by = are (at.In_ok-parents) s in
    let cycle = cycle-read _ _ _ by _ _ c.deref-6.ensures.value c.in_ok-place.ensures in
    third_three _ _ _ (once (at.In_ok-parents) s) (there (at.In_ok-parents) s) ∙ last_one _ ∙ cycle ∙ ap (option_map (λ k. refusal.RegionCycle (slice_index c.in_ok-ids.ids.items k))) c.in_default.is
