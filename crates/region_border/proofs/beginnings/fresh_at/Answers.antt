use Rattle.std.proofs.Common.{arith, ap, sym, ◌∙◌, ◌+◌, ◌*◌, ℕ, ℤ}
use Rattle.std.specs.Prelude.{slice_index}
use Rattle.scratch_region.specs.Marks.{is_marked}
use Rattle.plane_model.specs.Border.{is_border}
use Rattle.pemb_file.specs.Served.{contents_of_view}
use Rattle.navigate.specs.Bound.{map_with}
use Rattle.navigate.proofs.Facts.{few_edges}
use Rattle.region_border.proofs.ByPlace.{mark_at, mark_within, stale_marked, stale_inside, fresh_there}
use Rattle.region_border.proofs.beginnings.fresh_at.Goals as goal

pub mark_with-requires : goal.mark_with-requires
mark_with-requires g c =
    let few = few_edges (contents_of_view c.args.served) c.args.served.whole in
    omega (arith, few, c.signed_edge_at-number.ensures.within)

pub has-requires : goal.has-requires
has-requires g c =
    let k = contents_of_view c.args.served in
    let found = c.signed_edge_at-number in
    let low = mark_within k c.args.served.whole found.result.0 c.mark_with.result found.result.1 found.ensures.within c.mark_with.ensures in
    omega (arith, low, c.requires.room)

pub returns-then-has-clause-none : goal.returns-then-has-clause-none
returns-then-has-clause-none g c =
    let k = contents_of_view c.args.served in
    let found = c.signed_edge_at-number in
    let mark = mark_at k c.args.served.whole c.args.place found.result.0 c.mark_with.result found.result.1 found.ensures.edge found.ensures.within found.ensures.named c.mark_with.ensures in
    λ _. stale_marked k c.args.served.whole c.args.region c.args.place c.mark_with.result (is_marked c.args.marks.now) mark (sym c.has.ensures ∙ c.if-has.true)

pub returns-then-is_border-clause-fresh : goal.returns-then-is_border-clause-fresh
returns-then-is_border-clause-fresh g c =
    let k = contents_of_view c.args.served in
    let r = slice_index k.regions c.args.region in
    let found = c.signed_edge_at-number in
    let mark = mark_at k c.args.served.whole c.args.place found.result.0 c.mark_with.result found.result.1 found.ensures.edge found.ensures.within found.ensures.named c.mark_with.ensures in
    let border = ap (λ (d : ℤ). is_border (map_with k) r d) (sym found.ensures.edge) ∙ sym c.is_border.ensures.border ∙ c.if-is_border.true in
    fresh_there k c.args.served.whole c.args.region c.args.place c.mark_with.result (is_marked c.args.marks.now) mark (sym c.has.ensures ∙ c.if-has.false) border

pub returns-else-is_border-clause-none : goal.returns-else-is_border-clause-none
returns-else-is_border-clause-none g c =
    let k = contents_of_view c.args.served in
    let r = slice_index k.regions c.args.region in
    let inside = ap (λ (d : ℤ). is_border (map_with k) r d) (sym c.signed_edge_at-number.ensures.edge) ∙ sym c.is_border.ensures.border ∙ c.if-is_border.false in
    λ _. stale_inside k c.args.served.whole c.args.region c.args.place (is_marked c.args.marks.now) inside
