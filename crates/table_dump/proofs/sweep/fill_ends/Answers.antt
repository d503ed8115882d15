use Rattle.std.specs.Prelude.{ℤ, slice_set}
use Rattle.std.specs.Int.{cast_unsigned}
use Rattle.std.proofs.Math.Facts.{to_z-of_z}
use Rattle.std.proofs.Common.{w64, SFits, rules, ◌≡◌, ◌+◌, ◌*◌, ◌<◌, ℕ, List, length, arith, ap, sym, ◌∙◌, subst, refl}
use Rattle.std.proofs.lemmas.List.{length-set}
use Rattle.scratch_region.specs.Numbers.{numbers_of}
use Rattle.code_laws.specs.Code.{Code}
use Rattle.code_tour.specs.Passed.{IsPassed}
use Rattle.code_tour.specs.Tour.{code_in, position_of}
use Rattle.pemb_file.specs.Served.{contents_of_view}
use Rattle.navigate.proofs.Facts.{w, few_edges}
use Rattle.table_dump.specs.Sweep.{AreSwept}
use Rattle.table_dump.proofs.Sweeping.{all_swept, first_swept, none_swept}
use Rattle.table_dump.proofs.sweep.fill_ends.Goals as goal

pub returns-in_default-clause-ends : goal.returns-in_default-clause-ends
returns-in_default-clause-ends g c =
    let m = contents_of_view c.args.served in
    let long = ap (λ (k : Code). length k.a) c.requires.code in
    none_swept m (w m c.args.served.whole) c.edges-edges.result.now c.edges-edges.ensures (numbers_of c.args.ends.now) (omega (arith, c.in_default.ensures.end, c.requires.first, long)) c.requires.room

pub loop-passed-init : goal.loop-passed-init
loop-passed-init g c =
    let m = contents_of_view c.args.served in
    let edges = c.edges-edges.result.now in
    let before = c.args.tour.now in
    let long = ap (λ (k : Code). length k.a) c.requires.code in
    let some : 0 < length m.code.a = omega (arith, c.in-Some.ensures.end, c.requires.first, long) in
    let numbers = subst (λ (k : Code). IsPassed k 0 c.in-Some.first) c.requires.code (subst (λ x. IsPassed (code_in before) x c.in-Some.first) c.requires.first c.in-Some.ensures.numbers) in
    let here = c.put_position-behind in
    let one : position_of c.pass.new.self ≡ 1 = omega (arith, c.in-Some.ensures.next, c.requires.first) in
    record {
      code = c.in-Some.ensures.code ∙ c.requires.code;
      within = omega (arith, one, some);
      room = here.ensures.room ∙ c.requires.room;
      end = here.ensures.within;
      swept = subst (λ x. AreSwept m edges x (numbers_of here.new.ends) here.result) (sym one)
          (first_swept m (w m c.args.served.whole) edges c.edges-edges.ensures (numbers_of c.args.ends.now) (numbers_of here.new.ends) here.result some c.requires.room (here.ensures.put 0 some numbers));
      read = omega (arith, c.in-Some.ensures.least refl, here.ensures.some_steps);
      paid = omega (arith, one, c.in-Some.ensures.most, here.ensures.cost);
    }

pub loop-passed-preserved : goal.loop-passed-preserved
loop-passed-preserved g c =
    let m = contents_of_view c.args.served in
    let i = c.loop-passed.invariant in
    let p = position_of c.loop-passed.tour in
    let long = ap (λ (k : Code). length k.a) i.code in
    let l : position_of c.loop-passed.tour < length m.code.a = omega (arith, c.in-Some-pass.ensures.end, long) in
    let numbers = subst (λ (k : Code). IsPassed k (position_of c.loop-passed.tour) c.in-Some-pass.passed) i.code c.in-Some-pass.ensures.numbers in
    let here = c.put_next_position-behind in
    let next : position_of c.pass-in-loop-passed.new.self ≡ position_of c.loop-passed.tour + 1 = c.in-Some-pass.ensures.next in
    record {
      code = c.in-Some-pass.ensures.code ∙ i.code;
      within = omega (arith, next, l);
      room = here.ensures.room ∙ i.room;
      end = here.ensures.within;
      swept = subst (λ x. AreSwept m c.edges-edges.result.now x (numbers_of here.new.ends) here.result) (sym next) (here.ensures.swept (position_of c.loop-passed.tour) l numbers i.swept);
      read = omega (arith, i.read, c.in-Some-pass.ensures.least refl, here.ensures.grows);
      paid = omega (arith, next, i.paid, c.in-Some-pass.ensures.most, here.ensures.cost);
    }

pub put_next-requires-clause-few : goal.put_next-requires-clause-few
put_next-requires-clause-few g c =
    let m = contents_of_view c.args.served in
    let few = few_edges m c.args.served.whole in
    omega (arith, few, c.loop-passed.invariant.end)

pub returns-clause-ends : goal.returns-clause-ends
returns-clause-ends g c =
    let m = contents_of_view c.args.served in
    let i = c.loop-passed.invariant in
    let long = ap (λ (k : Code). length k.a) i.code in
    let behind = c.loop-passed.behind in
    let ends = numbers_of c.loop-passed.ends in
    let f : SFits w64 c.loop-passed.behind.first = search rules in
    let is = c.put_next.ensures ∙ ap (λ (z : ℤ). slice_set ends (3 * behind.end + 2) (cast_unsigned w64 z)) (to_z-of_z f) in
    all_swept m (w m c.args.served.whole) c.edges-edges.result.now c.edges-edges.ensures (position_of c.loop-passed.tour) ends (numbers_of c.put_next.new.ends) behind (omega (arith, c.in_default-pass.ensures.end, long)) i.room i.end i.swept f is
    (ap (λ (xs : List ℕ). length xs) is ∙ length-set ends (3 * behind.end + 2) (cast_unsigned w64 behind.first))

pub returns-clause-cost : goal.returns-clause-cost
returns-clause-cost g c =
    let m = contents_of_view c.args.served in
    let i = c.loop-passed.invariant in
    let long = ap (λ (k : Code). length k.a) i.code in
    let sizes = (w m c.args.served.whole).sizes.positions in
    let all : position_of c.loop-passed.tour ≡ 2 * length m.edges = omega (arith, c.in_default-pass.ensures.end, long, sizes) in
    omega (arith, all, i.paid, c.in_default-pass.ensures.free refl)

pub returns-clause-grows : goal.returns-clause-grows
returns-clause-grows g c = omega (arith, c.loop-passed.invariant.read, c.in_default-pass.ensures.free refl)
