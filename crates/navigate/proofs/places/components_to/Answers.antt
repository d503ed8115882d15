use Rattle.std.proofs.Common.{arith, ◌∙◌, ap}
use Rattle.std.specs.Prelude.{slice_index}
use Rattle.pemb_file.specs.Served.{contents_of_view}
use Rattle.pemb_file.proofs.PlaceLaws.{many, component_at, places_rise}
use Rattle.navigate.proofs.places.components_to.Goals as goal

pub returns-then-below-counts-clause-from : goal.returns-then-below-counts-clause-from
returns-then-below-counts-clause-from g c = λ i l below.
    let all = many (contents_of_view c.args.served) c.args.served.whole in
    absurd (omega (arith, l, below, all, c.if-below-counts.true, c.counts.ensures.components))

pub place_order-component-requires : goal.place_order-component-requires
place_order-component-requires g c =
    let all = many (contents_of_view c.args.served) c.args.served.whole in
    omega (arith, all, c.requires.below, c.if-below-counts.false, c.counts.ensures.components)

pub place-requires : goal.place-requires
place-requires g c =
    let m = contents_of_view c.args.served in
    let all = many m c.args.served.whole in
    let l = component_at m c.args.served.whole c.args.below (omega (arith, all, c.requires.below, c.if-below-counts.false, c.counts.ensures.components)) in
    omega (arith, l, c.place_order-component.ensures.component)

pub returns-then-place-clause-from : goal.returns-then-place-clause-from
returns-then-place-clause-from g c = λ i l below.
    let m = contents_of_view c.args.served in
    let up = places_rise m c.args.served.whole c.args.below i l below in
    let at = c.place.ensures.place ∙ ap (slice_index m.places) c.place_order-component.ensures.component in
    omega (arith, up, at, c.if-place.true)
