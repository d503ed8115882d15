use Rattle.std.proofs.Common.{arith, ap, sym, ◌∙◌, Some}
use Rattle.std.specs.Prelude.{option_map, slice_index}
use Rattle.pemb_file.specs.Served.{contents_of_view}
use Rattle.region_tree.specs.RegionView.{regions_of}
use Rattle.navigate.proofs.RegionLaws.{place_in, digits_tree, digits_ids, none_first, none_second, shared}
use Rattle.navigate.proofs.common_region.common_at.Goals as goal

pub of_face-requires : goal.of_face-requires
of_face-requires g c = place_in (contents_of_view c.args.served) c.args.served.whole (regions_of c.regions-regions.result) c.args.first c.regions-regions.ensures c.requires.first

pub of_face-requires-2 : goal.of_face-requires-2
of_face-requires-2 g c = place_in (contents_of_view c.args.served) c.args.served.whole (regions_of c.regions-regions.result) c.args.second c.regions-regions.ensures c.requires.second

pub returns-in_err-one-clause-region : goal.returns-in_err-one-clause-region
returns-in_err-one-clause-region g c =
    ap (option_map (λ r. r.0)) c.from_residual.ensures
    ∙ sym (none_first (contents_of_view c.args.served) c.args.served.whole (regions_of c.regions-regions.result) c.of_face.result c.args.first c.args.second c.regions-regions.ensures c.of_face.ensures.region c.in_err-one.was c.requires.first)

pub returns-in_err-other-clause-region : goal.returns-in_err-other-clause-region
returns-in_err-other-clause-region g c =
    ap (option_map (λ r. r.0)) c.from_residual-in_err-other.ensures
    ∙ sym (none_second (contents_of_view c.args.served) c.args.served.whole (regions_of c.regions-regions.result) c.of_face-2.result c.args.first c.args.second c.regions-regions.ensures c.of_face-2.ensures.region c.in_err-other.was c.requires.second)

pub returns-in_err-round-clause-region : goal.returns-in_err-round-clause-region
returns-in_err-round-clause-region g c =
    let v = regions_of c.regions-regions.result in
    ap (option_map (λ r. r.0)) c.from_residual-in_err-round.ensures
    ∙ ap (option_map (slice_index v.ids)) (sym c.in_err-round.was)
    ∙ shared (contents_of_view c.args.served) c.args.served.whole v c.in_ok-one.one c.in_ok-other.other c.args.first c.args.second c.common.result c.regions-regions.ensures (sym c.in_ok-one.was ∙ c.of_face.ensures.region)
    (sym c.in_ok-other.was ∙ c.of_face-2.ensures.region) c.in_ok-one.ensures.within c.in_ok-other.ensures.within c.requires.first c.requires.second c.common.ensures.common

pub returns-in_err-round-clause-cost : goal.returns-in_err-round-clause-cost
returns-in_err-round-clause-cost g c =
    let d = digits_tree (contents_of_view c.args.served) c.args.served.whole (regions_of c.regions-regions.result) c.regions-regions.ensures in
    omega (arith, d, c.of_face.ensures.cost, c.of_face-2.ensures.cost, c.common.ensures.cost)

pub returns-clause-region : goal.returns-clause-region
returns-clause-region g c =
    let v = regions_of c.regions-regions.result in
    ap Some c.id_of.ensures.id ∙ ap (option_map (slice_index v.ids)) (sym c.in_ok-round.was)
    ∙ shared (contents_of_view c.args.served) c.args.served.whole v c.in_ok-one.one c.in_ok-other.other c.args.first c.args.second c.common.result c.regions-regions.ensures (sym c.in_ok-one.was ∙ c.of_face.ensures.region)
    (sym c.in_ok-other.was ∙ c.of_face-2.ensures.region) c.in_ok-one.ensures.within c.in_ok-other.ensures.within c.requires.first c.requires.second c.common.ensures.common

pub returns-clause-cost : goal.returns-clause-cost
returns-clause-cost g c =
    let d = digits_tree (contents_of_view c.args.served) c.args.served.whole (regions_of c.regions-regions.result) c.regions-regions.ensures in
    let k = digits_ids (contents_of_view c.args.served) c.args.served.whole (regions_of c.regions-regions.result) c.regions-regions.ensures in
    omega (arith, d, k, c.of_face.ensures.cost, c.of_face-2.ensures.cost, c.common.ensures.cost, c.id_of.ensures.cost)
