use Rattle.std.specs.Prelude.{true}
use Rattle.std.proofs.Common.{◌≤◌, ◌<◌, ◌∙◌, List, ℕ, ap, arith, length, subst, sym}
use Rattle.std.proofs.lemmas.List.FromFn.{length-map-range_with_len}
use Rattle.bit_words.specs.Bits.{rank}
use Rattle.parens.specs.ParenView.{parens_of}
use Rattle.parens.proofs.Balances.{balanced}
use Rattle.region_tree.specs.Nesting.{opening}
use Rattle.file_parts.specs.Opened.{opened_by}
use Rattle.file_parts.proofs.OpeningPlaces.{opening_next, opening_within, openings_more, two_each}
use Rattle.file_parts.proofs.regions.openings.Goals as goal

pub opening_place-place-requires-clause-before : goal.opening_place-place-requires-clause-before
opening_place-place-requires-clause-before g c =
    let bits = parens_of c.args.regions.tree in
    ap length c.deref.ensures.value ∙ ap length c.loop-region.invariant.openings ∙ length-map-range_with_len (opening bits) 0 c.loop-region.region

pub opening_place-place-requires-clause-few : goal.opening_place-place-requires-clause-few
opening_place-place-requires-clause-few g c =
    let bits = parens_of c.args.regions.tree in
    let b = balanced bits c.args.regions.tree.balanced in
    let k = c.loop-region.region in
    let opens = c.count-count.ensures.open in
    let few = c.count-count.ensures.few in
    let below : k < rank true bits (length bits) = omega (arith, c.loop-region-test.true, opens) in
    let is = ap (λ (xs : List ℕ). opened_by xs k c.parent-parent.result) c.deref.ensures.value ∙ ap (opened_by c.loop-region.openings.items k) c.parent-parent.ensures.parent ∙ opening_next bits b k c.loop-region.openings.items below c.loop-region.invariant.openings in
    let within = opening_within bits b k below in
    let two = two_each bits b in
    subst (λ x. x ≤ 2147483647) (sym is) (omega (arith, within, two, opens, few))

pub loop-region-preserved : goal.loop-region-preserved
loop-region-preserved g c =
    let bits = parens_of c.args.regions.tree in
    let b = balanced bits c.args.regions.tree.balanced in
    let k = c.loop-region.region in
    let opens = c.count-count.ensures.open in
    let below : k < rank true bits (length bits) = omega (arith, c.loop-region-test.true, opens) in
    record {
      openings = openings_more bits b k c.loop-region.openings.items _ c.parent-parent.result c.opening_place-place.result below c.loop-region.invariant.openings c.parent-parent.ensures.parent
          (c.opening_place-place.ensures ∙ ap (λ (xs : List ℕ). opened_by xs k c.parent-parent.result) c.deref.ensures.value) c.in_ok-push.ensures.items;
      grows = omega (arith, c.loop-region.invariant.grows, c.parent-parent.ensures.some_steps);
    }
