use Rattle.std.proofs.Common.{arith, ◌∙◌, length}
use Rattle.pemb_file.specs.Served.{contents_of_view}
use Rattle.region_tree.specs.RegionView.{regions_of}
use Rattle.navigate.specs.RegionWalk.{rest}
use Rattle.navigate.proofs.Facts.{words_line}
use Rattle.navigate.proofs.OrbitLengths.{some_digits}
use Rattle.navigate.proofs.RegionLaws.{place_in, region_in, chain_is, walk_fits}
use Rattle.navigate.proofs.common_region.region_walk.Goals as goal

pub returns-in_err-place-clause-paid : goal.returns-in_err-place-clause-paid
returns-in_err-place-clause-paid g c =
    let d = some_digits (contents_of_view c.args.served) in
    let words = words_line (contents_of_view c.args.served) c.args.served.whole 0 0 in
    rw c.from_residual.ensures (omega (arith, d, words, c.place_of.ensures.cost))

pub of_face-region-requires : goal.of_face-region-requires
of_face-region-requires g c = place_in (contents_of_view c.args.served) c.args.served.whole (regions_of c.regions-regions.result) c.in_ok-place.place c.regions-regions.ensures c.in_ok-place.ensures.found.0

pub from-requires : goal.from-requires
from-requires g c = region_in (contents_of_view c.args.served) c.args.served.whole (regions_of c.regions-regions.result) c.of_face-region.result c.regions-regions.ensures c.of_face-region.ensures.within

pub returns-clause-list : goal.returns-clause-list
returns-clause-list g c =
    let m = contents_of_view c.args.served in
    let v = regions_of c.regions-regions.result in
    let same = c.regions-regions.ensures in
    c.from.ensures.rest
    ∙ chain_is m c.args.served.whole v c.of_face-region.result c.in_ok-place.place c.args.face.0 same c.of_face-region.ensures.region (region_in m c.args.served.whole v c.of_face-region.result same c.of_face-region.ensures.within) c.in_ok-place.ensures.found.0
    c.in_ok-place.ensures.found.1

pub returns-clause-paid : goal.returns-clause-paid
returns-clause-paid g c =
    let m = contents_of_view c.args.served in
    let words = words_line m c.args.served.whole 0 (length (rest c.from.result)) in
    let fits = walk_fits m c.from.result c.args.steps.now c.of_face-region.new.steps c.from.ensures.contents (omega (arith, c.in_ok-place.ensures.cost, c.of_face-region.ensures.cost)) in
    omega (arith, words, fits)
