use Rattle.std.proofs.Common.{arith, ap, sym, ◌∙◌, length, Option, ℕ}
use Rattle.pemb_file.specs.Served.{contents_of_view}
use Rattle.region_tree.specs.RegionView.{regions_of}
use Rattle.navigate.proofs.RegionLaws.{place_in, digits_tree}
use Rattle.region_border.proofs.Insides.{is_number, inside_none, inside_some}
use Rattle.region_border.proofs.looking.is_inside.Goals as goal

pub of_face-requires : goal.of_face-requires
of_face-requires g c = place_in (contents_of_view c.args.served) c.args.served.whole (regions_of c.regions-regions.result) c.in-Some.place c.regions-regions.ensures c.in-Some.ensures.found.0

pub returns-in_default-of_face-clause-inside : goal.returns-in_default-of_face-clause-inside
returns-in_default-of_face-clause-inside g c =
    sym (inside_none (contents_of_view c.args.served) c.args.served.whole (regions_of c.regions-regions.result) c.of_face.result c.args.region c.in-Some.place c.args.face.0 c.regions-regions.ensures c.of_face.ensures.region c.in_default-of_face.is
    c.in-Some.ensures.found.0 c.in-Some.ensures.found.1)

pub returns-in-Some-common-clause-inside : goal.returns-in-Some-common-clause-inside
returns-in-Some-common-clause-inside g c =
    sym (inside_some (contents_of_view c.args.served) c.args.served.whole (regions_of c.regions-regions.result) c.args.region c.in-Some-of_face.own c.in-Some.place c.args.face.0 c.common.result c.regions-regions.ensures
    (sym c.in-Some-of_face.is ∙ c.of_face.ensures.region) c.in-Some-of_face.ensures.within c.requires.region c.in-Some.ensures.found.0 c.in-Some.ensures.found.1 c.common.ensures.common
    ∙ ap (λ (o : Option ℕ). is_number o c.args.region) c.in-Some-common.is)

pub returns-in-Some-common-clause-cost : goal.returns-in-Some-common-clause-cost
returns-in-Some-common-clause-cost g c =
    let d = digits_tree (contents_of_view c.args.served) c.args.served.whole (regions_of c.regions-regions.result) c.regions-regions.ensures in
    omega (arith, d, c.in-Some.ensures.cost, c.of_face.ensures.cost, c.common.ensures.cost)

pub returns-in-None-clause-inside : goal.returns-in-None-clause-inside
returns-in-None-clause-inside g c =
    sym (inside_some (contents_of_view c.args.served) c.args.served.whole (regions_of c.regions-regions.result) c.args.region c.in-Some-of_face.own c.in-Some.place c.args.face.0 c.common.result c.regions-regions.ensures
    (sym c.in-Some-of_face.is ∙ c.of_face.ensures.region) c.in-Some-of_face.ensures.within c.requires.region c.in-Some.ensures.found.0 c.in-Some.ensures.found.1 c.common.ensures.common
    ∙ ap (λ (o : Option ℕ). is_number o c.args.region) c.in-None.is)

pub returns-in-None-clause-cost : goal.returns-in-None-clause-cost
returns-in-None-clause-cost g c =
    let d = digits_tree (contents_of_view c.args.served) c.args.served.whole (regions_of c.regions-regions.result) c.regions-regions.ensures in
    omega (arith, d, c.in-Some.ensures.cost, c.of_face.ensures.cost, c.common.ensures.cost)
