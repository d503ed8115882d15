use Rattle.std.specs.Prelude.{slice_index, option_map}
use Rattle.std.proofs.Common.{length, arith, ap, ◌∙◌, Some}
use Rattle.region_tree.specs.Nesting.{parent_number}
use Rattle.region_tree.specs.RegionView.{Regions}
use Rattle.pemb_file.specs.Served.{contents_of_view}
use Rattle.navigate.proofs.Facts.{w}
use Rattle.table_dump.proofs.AtRanks.{digits_regions, digits_bits}
use Rattle.table_dump.proofs.rows.parent_id.Goals as goal

pub parent-requires : goal.parent-requires
parent-requires g c = let many = ap (λ (r : Regions). length r.ids) c.regions-regions.ensures in omega (arith, many, c.requires)

pub returns-in-Some-clause-parent : goal.returns-in-Some-clause-parent
returns-in-Some-clause-parent g c =
    let m = contents_of_view c.args.served in
    let same = c.regions-regions.ensures in
    let is = c.in-Some.ensures.parent ∙ ap (λ (r : Regions). parent_number r.bits c.args.region) same in
    ap Some (c.id_of.ensures.id ∙ ap (λ (r : Regions). slice_index r.ids c.in-Some.parent) same) ∙ ap (option_map (slice_index m.regions)) is

pub returns-in-None-clause-parent : goal.returns-in-None-clause-parent
returns-in-None-clause-parent g c =
    let m = contents_of_view c.args.served in
    ap (option_map (slice_index m.regions)) (c.in-None.ensures.parent ∙ ap (λ (r : Regions). parent_number r.bits c.args.region) c.regions-regions.ensures)

pub returns-in-Some-clause-cost : goal.returns-in-Some-clause-cost
returns-in-Some-clause-cost g c =
    let m = contents_of_view c.args.served in
    let s = (w m c.args.served.whole).sizes.region_bits in
    let same = c.regions-regions.ensures in
    let ids = digits_regions m _ (ap (λ (r : Regions). length r.ids) same) in
    let bits = digits_bits m _ (ap (λ (r : Regions). length r.bits) same ∙ s) in
    omega (arith, ids, bits, c.in-Some.ensures.cost, c.id_of.ensures.cost)

pub returns-in-None-clause-cost : goal.returns-in-None-clause-cost
returns-in-None-clause-cost g c =
    let m = contents_of_view c.args.served in
    let s = (w m c.args.served.whole).sizes.region_bits in
    let bits = digits_bits m _ (ap (λ (r : Regions). length r.bits) c.regions-regions.ensures ∙ s) in
    omega (arith, bits, c.in-None.ensures.cost)
