use Rattle.std.proofs.Common.{arith, ap, sym, ◌∙◌, ◌≡◌, subst, List, length, ℤ, ℕ, None, Some}
use Rattle.std.specs.Prelude.{slice_index, filter}
use Rattle.plane_model.specs.PlaneMap.{signed_edges}
use Rattle.plane_model.specs.Orders.{IsAllOf}
use Rattle.plane_model.specs.Border.{is_border, border}
use Rattle.pemb_file.specs.Served.{contents_of_view}
use Rattle.region_tree.specs.RegionView.{Regions, regions_of}
use Rattle.navigate.specs.Bound.{map_with}
use Rattle.navigate.proofs.Facts.{words_line}
use Rattle.navigate.proofs.OrbitLengths.{some_digits}
use Rattle.navigate.proofs.RegionLaws.{digits_ids}
use Rattle.region_border.specs.Items.{items_of, edges_in}
use Rattle.region_border.specs.BorderWalk.{rest}
use Rattle.region_border.specs.Prices.{walk_price}
use Rattle.region_border.proofs.KnownRegions.{region_known}
use Rattle.region_border.proofs.Marking.{all_of}
use Rattle.region_border.proofs.Paying.{walk_fits}
use Rattle.region_border.proofs.walks.border_walk.Goals as goal

pub begin-requires : goal.begin-requires
begin-requires g c =
    let many = ap (λ (r : Regions). length r.ids) c.regions-regions.ensures in
    omega (arith, many, c.in-Some.ensures.found.0)

pub returns-in-None-clause-known : goal.returns-in-None-clause-known
returns-in-None-clause-known g c =
    let k = contents_of_view c.args.served in
    region_known k (regions_of c.regions-regions.result).ids c.args.region.0 None (ap (λ (r : Regions). r.ids) c.regions-regions.ensures) c.in-None.ensures.found

pub returns-in-None-clause-paid : goal.returns-in-None-clause-paid
returns-in-None-clause-paid g c =
    let k = contents_of_view c.args.served in
    let v = regions_of c.regions-regions.result in
    let d = digits_ids k c.args.served.whole v c.regions-regions.ensures in
    let two = some_digits k in
    let words = words_line k c.args.served.whole 0 0 in
    omega (arith, d, two, words, c.number_of.ensures.cost)

pub returns-in-Some-clause-known : goal.returns-in-Some-clause-known
returns-in-Some-clause-known g c =
    let k = contents_of_view c.args.served in
    region_known k (regions_of c.regions-regions.result).ids c.args.region.0 (Some c.in-Some.number) (ap (λ (r : Regions). r.ids) c.regions-regions.ensures) c.in-Some.ensures.found

pub returns-in-Some-clause-list : goal.returns-in-Some-clause-list
returns-in-Some-clause-list g c =
    let k = contents_of_view c.args.served in
    let id = ap (λ (r : Regions). slice_index r.ids c.in-Some.number) (sym c.regions-regions.ensures) ∙ c.in-Some.ensures.found.1 in
    c.begin.ensures.list ∙ ap (λ (r : ℕ). items_of (border (map_with k) r)) id

pub returns-in-Some-clause-edges : goal.returns-in-Some-clause-edges
returns-in-Some-clause-edges g c =
    let k = contents_of_view c.args.served in
    let m = map_with k in
    let id = ap (λ (r : Regions). slice_index r.ids c.in-Some.number) (sym c.regions-regions.ensures) ∙ c.in-Some.ensures.found.1 in
    let list = c.begin.ensures.list ∙ ap (λ (r : ℕ). items_of (border m r)) id in
    subst (IsAllOf (filter (is_border m c.args.region.0) (signed_edges m))) (sym (ap edges_in list)) (all_of k c.args.served.whole c.args.region.0)

pub returns-in-Some-clause-paid : goal.returns-in-Some-clause-paid
returns-in-Some-clause-paid g c =
    let k = contents_of_view c.args.served in
    let v = regions_of c.regions-regions.result in
    let d = digits_ids k c.args.served.whole v c.regions-regions.ensures in
    let id = ap (λ (r : Regions). slice_index r.ids c.in-Some.number) (sym c.regions-regions.ensures) ∙ c.in-Some.ensures.found.1 in
    let list = c.begin.ensures.list ∙ ap (λ (r : ℕ). items_of (border (map_with k) r)) id in
    let price = c.begin.ensures.paid ∙ ap (λ (r : ℕ). walk_price k r 0 (rest c.begin.result)) id in
    let fits = walk_fits k c.args.served.whole c.args.region.0 c.args.steps.now c.number_of.new.steps (rest c.begin.result) list (omega (arith, d, c.number_of.ensures.cost)) in
    omega (arith, price, fits)
