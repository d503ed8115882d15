use Rattle.std.proofs.Common.{arith, sym, subst, refl, ◌*◌, ℤ, length, Option}
use Rattle.std.specs.Prelude.{IsNone}
use Rattle.scratch_region.specs.Marks.{is_marked}
use Rattle.turan_code.specs.TuranView.{code_of_view}
use Rattle.pemb_file.specs.Served.{contents_of_view}
use Rattle.region_border.specs.Numbered.{is_fresh_border}
use Rattle.region_border.specs.Prices.{scan_price}
use Rattle.region_border.proofs.MapFacts.{as_long}
use Rattle.region_border.proofs.ByPlace.{further, one_scanned, all_scanned}
use Rattle.region_border.proofs.beginnings.first_unmarked.Goals as goal

pub loop-place-init : goal.loop-place-init
loop-place-init g c = record { none = λ k a b. absurd (omega (arith, a, b)); grows = omega arith; cost = omega arith }

pub fresh_at-requires-clause-place : goal.fresh_at-requires-clause-place
fresh_at-requires-clause-place g c =
    let k = contents_of_view c.args.served in
    let long = as_long k c.args.served.whole (code_of_view c.code.result.now) c.len-end.result c.code.ensures.code c.len-end.ensures.len in
    omega (arith, long, c.loop-place-test.true)

pub loop-place-preserved : goal.loop-place-preserved
loop-place-preserved g c =
    let k = contents_of_view c.args.served in
    let i = c.loop-place.invariant in
    let failed = c.fresh_at.ensures.none (subst (λ (o : Option ℤ). IsNone o) (sym c.in_default.is) refl) in
    record {
      none = further (is_fresh_border k c.args.region (is_marked c.args.marks.now)) c.args.from c.loop-place.place i.none failed;
      grows = omega (arith, i.grows, c.fresh_at.ensures.grows);
      cost = one_scanned (scan_price k) c.args.from c.loop-place.place _ c.loop-place.steps c.fresh_at.new.steps (omega arith) i.cost c.fresh_at.ensures.cost;
    }

pub returns-in-Some-clause-within : goal.returns-in-Some-clause-within
returns-in-Some-clause-within g c =
    let k = contents_of_view c.args.served in
    let long = as_long k c.args.served.whole (code_of_view c.code.result.now) c.len-end.result c.code.ensures.code c.len-end.ensures.len in
    (omega arith, omega (arith, long, c.loop-place-test.true))

pub returns-in-Some-clause-passed : goal.returns-in-Some-clause-passed
returns-in-Some-clause-passed g c = c.loop-place.invariant.none

pub returns-in-Some-clause-cost : goal.returns-in-Some-clause-cost
returns-in-Some-clause-cost g c =
    let k = contents_of_view c.args.served in
    one_scanned (scan_price k) c.args.from c.loop-place.place _ c.loop-place.steps c.fresh_at.new.steps (omega arith) c.loop-place.invariant.cost c.fresh_at.ensures.cost

pub returns-clause-none : goal.returns-clause-none
returns-clause-none g c =
    let k = contents_of_view c.args.served in
    let long = as_long k c.args.served.whole (code_of_view c.code.result.now) c.len-end.result c.code.ensures.code c.len-end.ensures.len in
    let above = c.loop-place-test.false in
    λ _ j a b. c.loop-place.invariant.none j a (omega (arith, long, above, b))

pub returns-clause-cost_none : goal.returns-clause-cost_none
returns-clause-cost_none g c =
    let k = contents_of_view c.args.served in
    let long = as_long k c.args.served.whole (code_of_view c.code.result.now) c.len-end.result c.code.ensures.code c.len-end.ensures.len in
    let above = c.loop-place-test.false in
    λ _. all_scanned (scan_price k) c.args.from c.loop-place.place (2 * length k.edges) _ c.loop-place.steps (omega (arith, long, above, c.requires.from)) c.loop-place.invariant.cost
