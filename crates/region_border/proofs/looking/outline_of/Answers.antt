use Rattle.std.proofs.Common.{arith, ap, sym, ◌∙◌, ◌≡◌, ◌<◌, ◌-◌, ℤ, true, false, length}
use Rattle.std.specs.Prelude.{slice_index}
use Rattle.turan_code.specs.TuranView.{code_of_view}
use Rattle.plane_model.specs.PlaneMap.{signed_edges, next, turn}
use Rattle.plane_model.specs.Border.{is_border}
use Rattle.pemb_file.specs.Served.{contents_of_view}
use Rattle.navigate.specs.Bound.{map_with}
use Rattle.region_border.proofs.MapFacts.{many, as_long, known_reverse}
use Rattle.region_border.proofs.Turning.{begins-at, found-here, goes-on, ended}
use Rattle.region_border.proofs.Paying.{search_begun, search_on}
use Rattle.region_border.proofs.looking.outline_of.Goals as goal

pub loop-init : goal.loop-init
loop-init g c =
    let k = contents_of_view c.args.served in
    let m = map_with k in
    let r = slice_index k.regions c.args.region in
    let first = c.next_after-at in
    record {
      known = first.ensures.known;
      goes = begins-at m r c.args.edge first.result first.ensures.next;
      some = first.ensures.some_steps;
      paid = search_begun k r c.args.edge first.result c.args.steps.now first.new.steps first.ensures.next first.ensures.cost;
    }

pub next_after-at-requires-in-loop : goal.next_after-at-requires-in-loop
next_after-at-requires-in-loop g c =
    let k = contents_of_view c.args.served in
    ap (λ (d : ℤ). Rattle.plane_model.specs.Answers.has_signed_edge (map_with k) d) c.reverse.ensures ∙ known_reverse k c.args.served.whole c.loop.at c.loop.invariant.known

pub loop-preserved : goal.loop-preserved
loop-preserved g c =
    let k = contents_of_view c.args.served in
    let m = map_with k in
    let r = slice_index k.regions c.args.region in
    let i = c.loop.invariant in
    let after = c.next_after-at-in-loop in
    let long = as_long k c.args.served.whole (code_of_view c.code.result.now) c.len-end.result c.code.ensures.code c.len-end.ensures.len in
    let all = many k c.args.served.whole in
    let l : c.loop.counter < length (signed_edges m) = omega (arith, c.loop-test.true, long, all) in
    let b : is_border m r c.loop.at ≡ false = sym c.is_border.ensures.border ∙ c.if-is_border.false in
    let is : after.result ≡ turn m c.loop.at = after.ensures.next ∙ ap (next m) c.reverse.ensures in
    record {
      known = after.ensures.known;
      goes = goes-on m r c.loop.counter c.loop.at after.result l b is ∙ i.goes;
      some = omega (arith, i.some, c.is_border.ensures.grows, after.ensures.some_steps);
      paid = search_on k r c.loop.counter c.loop.at after.result _ c.loop.steps c.is_border.new.steps after.new.steps l b is i.paid c.is_border.ensures.cost after.ensures.cost;
    }

pub returns-then-is_border-clause-outline : goal.returns-then-is_border-clause-outline
returns-then-is_border-clause-outline g c =
    let k = contents_of_view c.args.served in
    let m = map_with k in
    let r = slice_index k.regions c.args.region in
    let long = as_long k c.args.served.whole (code_of_view c.code.result.now) c.len-end.result c.code.ensures.code c.len-end.ensures.len in
    let all = many k c.args.served.whole in
    let l : c.loop.counter < length (signed_edges m) = omega (arith, c.loop-test.true, long, all) in
    sym (found-here m r c.loop.counter c.loop.at l (sym c.is_border.ensures.border ∙ c.if-is_border.true)) ∙ c.loop.invariant.goes

pub returns-then-is_border-clause-cost : goal.returns-then-is_border-clause-cost
returns-then-is_border-clause-cost g c = omega (arith, c.loop.invariant.paid, c.is_border.ensures.cost)

pub returns-clause-outline : goal.returns-clause-outline
returns-clause-outline g c =
    let k = contents_of_view c.args.served in
    let m = map_with k in
    let r = slice_index k.regions c.args.region in
    let long = as_long k c.args.served.whole (code_of_view c.code.result.now) c.len-end.result c.code.ensures.code c.len-end.ensures.len in
    let all = many k c.args.served.whole in
    sym (ended m r c.loop.counter c.loop.at (omega (arith, c.loop-test.false, long, all))) ∙ c.loop.invariant.goes

pub returns-clause-cost : goal.returns-clause-cost
returns-clause-cost g c = omega (arith, c.loop.invariant.paid)
