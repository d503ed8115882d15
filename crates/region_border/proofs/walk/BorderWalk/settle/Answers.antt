use Rattle.std.specs.Prelude.{IsNone}
use Rattle.std.proofs.Common.{arith, sym, ap, ◌∙◌, ◌≡◌, ◌+◌, ℕ, ℤ, true, refl, subst, Option, Some}
use Rattle.std.proofs.lemmas.Bool.{both_ways}
use Rattle.scratch_region.specs.Marks.{is_marked}
use Rattle.turan_code.specs.TuranView.{code_of_view}
use Rattle.plane_model.specs.Answers.{has_signed_edge}
use Rattle.region_border.specs.BorderWalk.{contents_in, map_in, region_in, rest, given, allowance}
use Rattle.region_border.specs.Standing.{items_left, IsStanding}
use Rattle.region_border.specs.declared.ring.Ring.{Ring}
use Rattle.region_border.proofs.MapFacts.{as_long}
use Rattle.region_border.proofs.Resting.{between, stands_on}
use Rattle.region_border.proofs.Settling.{settled, over, over-behind}
use Rattle.region_border.proofs.Paying.{scanned_paid, over_paid}
use Rattle.region_border.proofs.Stepping.{on_one, not_both}
use Rattle.region_border.proofs.walk.BorderWalk.settle.Goals as goal

pub returns-in-Some-clause-ready : goal.returns-in-Some-clause-ready
returns-in-Some-clause-ready g c =
    let v = c.args.self.now in
    λ none. absurd (both_ways true (not_both v.ring c.in-Some._ring c.in-Some.is none) refl)

pub invariant_of-self : goal.invariant_of-self
invariant_of-self g c =
    let v = c.args.self.now in
    let long = as_long (contents_in v) v.served.whole (code_of_view c.code.result.now) c.len-count.result c.code.ensures.code c.len-count.ensures.len in
    record {
      region_in = v.region_in;
      seen_in = omega (arith, long);
      standing = subst (λ (o : Option Ring). IsStanding (map_in v) (region_in v) c.len-count.result o) (sym c.in_default.is) (between (map_in v) (region_in v) c.len-count.result);
    }

pub returns-in_default-first_unmarked-clause-rest : goal.returns-in_default-first_unmarked-clause-rest
unfolding given rest
returns-in_default-first_unmarked-clause-rest g c =
    let v = c.args.self.now in
    let k = contents_in v in
    let count = c.len-count.result in
    let long = as_long k v.served.whole (code_of_view c.code.result.now) count c.code.ensures.code c.len-count.ensures.len in
    let found = c.first_unmarked.ensures.none (subst (λ (o : Option (ℕ × ℤ)). IsNone o) (sym c.in_default-first_unmarked.is) refl) in
    let last = over-behind k v.served.whole v.region v.seen v.ring c.in_default.is v.standing (is_marked c.args.marks.now) c.requires.marks count long in
    let all = over k v.served.whole v.region v.seen v.ring c.in_default.is v.standing (is_marked c.args.marks.now) c.requires.marks v.seen_in found in
    ap (λ (o : Option Ring). items_left (map_in v) (region_in v) count o) c.in_default.is ∙ last ∙ sym all

pub returns-in_default-first_unmarked-clause-ready : goal.returns-in_default-first_unmarked-clause-ready
unfolding given rest
returns-in_default-first_unmarked-clause-ready g c =
    let v = c.args.self.now in
    let k = contents_in v in
    let count = c.len-count.result in
    let long = as_long k v.served.whole (code_of_view c.code.result.now) count c.code.ensures.code c.len-count.ensures.len in
    let last = over-behind k v.served.whole v.region v.seen v.ring c.in_default.is v.standing (is_marked c.args.marks.now) c.requires.marks count long in
    λ _. ap (λ (o : Option Ring). items_left (map_in v) (region_in v) count o) c.in_default.is ∙ last

pub returns-in_default-first_unmarked-clause-paid : goal.returns-in_default-first_unmarked-clause-paid
unfolding given rest allowance
returns-in_default-first_unmarked-clause-paid g c =
    let v = c.args.self.now in
    let k = contents_in v in
    let count = c.len-count.result in
    let long = as_long k v.served.whole (code_of_view c.code.result.now) count c.code.ensures.code c.len-count.ensures.len in
    let is_none = subst (λ (o : Option (ℕ × ℤ)). IsNone o) (sym c.in_default-first_unmarked.is) refl in
    let found = c.first_unmarked.ensures.none is_none in
    let last = over-behind k v.served.whole v.region v.seen v.ring c.in_default.is v.standing (is_marked c.args.marks.now) c.requires.marks count long in
    let all = over k v.served.whole v.region v.seen v.ring c.in_default.is v.standing (is_marked c.args.marks.now) c.requires.marks v.seen_in found in
    let same = ap (λ (o : Option Ring). items_left (map_in v) (region_in v) count o) c.in_default.is ∙ last ∙ sym all in
    over_paid k (region_in v) v.seen count c.args.steps.now c.first_unmarked.new.steps (items_left (map_in v) (region_in v) v.seen v.ring) (items_left (map_in v) (region_in v) count v.ring) long same (c.first_unmarked.ensures.cost_none is_none)

pub invariant_of-self-2 : goal.invariant_of-self-2
unfolding given rest
invariant_of-self-2 g c =
    let v = c.args.self.now in
    let k = contents_in v in
    let found = c.in-Some-first_unmarked.found in
    let told = c.in-Some-first_unmarked.ensures in
    let q = c.whole.result in
    let long = as_long k v.served.whole (code_of_view c.code.result.now) c.len-count.result c.code.ensures.code c.len-count.ensures.len in
    let known = subst (λ (d : ℤ). has_signed_edge (map_in v) d ≡ true) (sym (ap (λ (x : Ring). x.at) c.whole.ensures)) told.known in
    let same = settled k v.served.whole v.region v.seen v.ring c.in_default.is v.standing (is_marked c.args.marks.now) c.requires.marks found.0 c.len-count.result found.1 q c.whole.ensures
    told.within.0 told.within.1 long told.edge told.fresh told.passed in
    record {
      region_in = v.region_in;
      seen_in = omega (arith, told.within.1);
      standing = stands_on (map_in v) (region_in v) v.seen (found.0 + 1) v.ring (Some q) same (on_one (map_in v) q known) v.standing;
    }

pub returns-clause-rest : goal.returns-clause-rest
unfolding given rest
returns-clause-rest g c =
    let v = c.args.self.now in
    let k = contents_in v in
    let found = c.in-Some-first_unmarked.found in
    let told = c.in-Some-first_unmarked.ensures in
    let long = as_long k v.served.whole (code_of_view c.code.result.now) c.len-count.result c.code.ensures.code c.len-count.ensures.len in
    settled k v.served.whole v.region v.seen v.ring c.in_default.is v.standing (is_marked c.args.marks.now) c.requires.marks found.0 c.len-count.result found.1 c.whole.result c.whole.ensures
    told.within.0 told.within.1 long told.edge told.fresh told.passed

pub returns-clause-ready : goal.returns-clause-ready
returns-clause-ready g c = λ none. absurd (both_ways true (not_both (Some c.whole.result) c.whole.result refl none) refl)

pub returns-clause-paid : goal.returns-clause-paid
unfolding given rest allowance
returns-clause-paid g c =
    let v = c.args.self.now in
    let k = contents_in v in
    let found = c.in-Some-first_unmarked.found in
    let told = c.in-Some-first_unmarked.ensures in
    let q = c.whole.result in
    let long = as_long k v.served.whole (code_of_view c.code.result.now) c.len-count.result c.code.ensures.code c.len-count.ensures.len in
    let same = settled k v.served.whole v.region v.seen v.ring c.in_default.is v.standing (is_marked c.args.marks.now) c.requires.marks found.0 c.len-count.result found.1 q c.whole.ensures
    told.within.0 told.within.1 long told.edge told.fresh told.passed in
    scanned_paid k (region_in v) v.seen found.0 c.args.steps.now c.first_unmarked.new.steps (items_left (map_in v) (region_in v) v.seen v.ring) (items_left (map_in v) (region_in v) (found.0 + 1) (Some q))
    told.within.0 told.within.1 same told.cost
