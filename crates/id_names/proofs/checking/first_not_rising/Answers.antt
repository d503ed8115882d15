use Rattle.std.proofs.Common.{◌≡◌, ℕ, ◌+◌, ◌-◌, ◌<◌, inl, inr, true, false, length, get_or, ap, sym, ◌∙◌, subst, arith}
use Rattle.std.proofs.lemmas.Bool.{cases_lt}
use Rattle.bit_words.specs.PackedView.{fields_of}
use Rattle.bit_words.proofs.Ranks.{rank-zero, rank-le-rank, rank_more_yes, rank_more_no}
use Rattle.rank_select.specs.RankView.{counted}
use Rattle.id_names.specs.Faults.{is_rising}
use Rattle.id_names.specs.PartViews.{bound_in, id_in}
use Rattle.id_names.proofs.FaultLaws.{failing_none, failing_some, not_rising, rising_test, low_id, high_id}
use Rattle.id_names.proofs.Walks.{mark_within}
use Rattle.id_names.proofs.checking.first_not_rising.Goals as goal
use Rattle.id_names.proofs.checking.first_not_rising.Goals.{then-id-last-via-then-id-last, then-id-last-via-else-id-last+then-id-bound, then-bit+else-id-last+else-id-bound, else-bit}

rises_more : (bound : ℕ) (id : ℕ → ℕ) (j last : ℕ) → ((k : ℕ) → k < j → is_rising bound id k ≡ true) → (0 < j → last ≡ id (j - 1)) → last < id j → id j < bound → (k : ℕ) → k < j + 1 → is_rising bound id k ≡ true
rises_more bound id j last before later above within k h = elim (cases_lt k j) [
  | inl less ↦ before k less
  | inr end ↦
      let e : j ≡ k = omega arith in
      subst (λ k. is_rising bound id k ≡ true) e (rising_test bound id j (high_id bound id j last later above within))
]

pub loop-one-init : goal.loop-one-init
loop-one-init g c = record {
  place = sym (rank-zero true (counted c.args.ids.high));
  rises = λ k h. absurd (omega arith);
  first = λ z. z;
  later = λ some. absurd (omega arith);
  grows = omega arith;
  steps = omega arith;
}

pub id_of_one-id-requires-clause-within : goal.id_of_one-id-requires-clause-within
id_of_one-id-requires-clause-within g c =
    let ids = c.args.ids in
    let high = counted ids.high in
    let one = c.loop-one.one in
    let in_high : one < length high = omega (arith, c.loop-one-test.true, c.len-one-end.ensures, ap length c.bits-bits.ensures.bits) in
    let set : get_or high one false ≡ true = subst (λ bits. get_or bits one false ≡ true) c.bits-bits.ensures.bits (sym c.bit.ensures.bit ∙ c.if-bit.true) in
    omega (arith, mark_within high one in_high set, ids.ones, c.loop-one.invariant.place)

pub returns-then-id-last-clause-place : goal.returns-then-id-last-clause-place
returns-then-id-last-clause-place g c =
    let ids = c.args.ids in
    let high = counted ids.high in
    let one = c.loop-one.one in
    let j = c.loop-one.place in
    let in_high : one < length high = omega (arith, c.loop-one-test.true, c.len-one-end.ensures, ap length c.bits-bits.ensures.bits) in
    let set : get_or high one false ≡ true = subst (λ bits. get_or bits one false ≡ true) c.bits-bits.ensures.bits (sym c.bit.ensures.bit ∙ c.if-bit.true) in
    let within : j < length (fields_of ids.lows) = omega (arith, mark_within high one in_high set, ids.ones, c.loop-one.invariant.place) in
    sym (failing_some (is_rising (bound_in ids) (id_in ids)) (length (fields_of ids.lows)) j within c.loop-one.invariant.rises (not_rising (bound_in ids) (id_in ids) j (λ n.
    elim c.then-id-last.branch [
      | then-id-last-via-then-id-last w ↦ low_id (bound_in ids) (id_in ids) j c.loop-one.last c.loop-one.invariant.first c.loop-one.invariant.later (omega (arith, c.id_of_one-id.ensures.id, w.if-id-last.true)) n
      | then-id-last-via-else-id-last+then-id-bound w ↦ omega (arith, n.within, c.id_of_one-id.ensures.id, w.if-id-bound.true, c.id_bound-bound.ensures)
    ])))

pub returns-then-id-last-clause-cost : goal.returns-then-id-last-clause-cost
returns-then-id-last-clause-cost g c =
    let ids = c.args.ids in
    let high = counted ids.high in
    let one = c.loop-one.one in
    let in_high : one < length high = omega (arith, c.loop-one-test.true, c.len-one-end.ensures, ap length c.bits-bits.ensures.bits) in
    let set : get_or high one false ≡ true = subst (λ bits. get_or bits one false ≡ true) c.bits-bits.ensures.bits (sym c.bit.ensures.bit ∙ c.if-bit.true) in
    omega (arith, mark_within high one in_high set, ids.ones, c.loop-one.invariant.place, c.loop-one.invariant.steps, c.bit.ensures.one_step, c.id_of_one-id.ensures.cost)

pub overflow_add-place : goal.overflow_add-place
overflow_add-place g c =
    let ids = c.args.ids in
    let high = counted ids.high in
    let one = c.loop-one.one in
    let in_high : one < length high = omega (arith, c.loop-one-test.true, c.len-one-end.ensures, ap length c.bits-bits.ensures.bits) in
    let few = rank-le-rank true high one (length high) (omega arith) in
    omega (arith, few, ids.ones, ids.few, c.loop-one.invariant.place)

pub loop-one-preserved : goal.loop-one-preserved
loop-one-preserved g c =
    let ids = c.args.ids in
    let high = counted ids.high in
    let one = c.loop-one.one in
    let j = c.loop-one.place in
    let i = c.loop-one.invariant in
    let in_high : one < length high = omega (arith, c.loop-one-test.true, c.len-one-end.ensures, ap length c.bits-bits.ensures.bits) in
    elim c.if-bit.branch [
      | then-bit+else-id-last+else-id-bound w ↦
          let set : get_or high one false ≡ true = subst (λ bits. get_or bits one false ≡ true) c.bits-bits.ensures.bits (sym c.bit.ensures.bit ∙ w.if-bit.true) in
          let above : c.loop-one.last < id_in ids j = omega (arith, w.id_of_one-id.ensures.id, w.if-id-last.false) in
          let within : id_in ids j < bound_in ids = omega (arith, w.id_of_one-id.ensures.id, w.if-id-bound.false, c.id_bound-bound.ensures) in
          record {
            place = omega (arith, w.place-is, i.place, rank_more_yes true high one false in_high set);
            rises = rw w.place-is (rises_more (bound_in ids) (id_in ids) j c.loop-one.last i.rises i.later above within);
            first = λ none. absurd (omega (arith, w.place-is));
            later = λ some. (let e : j ≡ c.if-bit.place - 1 = omega (arith, w.place-is) in w.last-is ∙ w.id_of_one-id.ensures.id ∙ ap (id_in ids) e);
            grows = omega (arith, w.steps-is, i.grows, c.bit.ensures.one_step, w.id_of_one-id.ensures.some_steps);
            steps = omega (arith, w.steps-is, w.place-is, i.steps, c.bit.ensures.one_step, w.id_of_one-id.ensures.cost);
          }
      | else-bit w ↦
          let clear : get_or high one false ≡ false = subst (λ bits. get_or bits one false ≡ false) c.bits-bits.ensures.bits (sym c.bit.ensures.bit ∙ w.if-bit.false) in
          record {
            place = omega (arith, w.place-is, i.place, rank_more_no true high one false in_high clear);
            rises = rw w.place-is i.rises;
            first = rw (w.place-is, w.last-is) i.first;
            later = rw (w.place-is, w.last-is) i.later;
            grows = omega (arith, w.steps-is, i.grows, c.bit.ensures.one_step);
            steps = omega (arith, w.steps-is, w.place-is, i.steps, c.bit.ensures.one_step);
          }
    ]

pub returns-clause-place : goal.returns-clause-place
returns-clause-place g c =
    let ids = c.args.ids in
    let high = counted ids.high in
    let end = rank-le-rank true high (length high) c.loop-one.one (omega (arith, c.loop-one-test.false, c.len-one-end.ensures, ap length c.bits-bits.ensures.bits)) in
    sym (failing_none (is_rising (bound_in ids) (id_in ids)) (length (fields_of ids.lows)) (λ k h. c.loop-one.invariant.rises k (omega (arith, end, ids.ones, c.loop-one.invariant.place))))
