use Rattle.std.proofs.Common.{◌≡◌, ◌+◌, ◌-◌, arith, set, sym, subst}
use Rattle.std.specs.Prelude.{slice_index}
use Rattle.id_index.proofs.Filling.{IsFilled, none_filled, one_filled, filled_rows, filled_twice}
use Rattle.id_index.proofs.index.IdIndex.dense.Goals as goal

pub loop-row-init : goal.loop-row-init
loop-row-init c = none_filled c.args.ids.now c.args.slots c.in_ok-rows.rows.slots.items c.in_ok-rows.ensures

pub loop-row-preserved : goal.loop-row-preserved
loop-row-preserved c =
    let ids = c.args.ids.now in
    let many = c.args.slots in
    let k = c.loop-row.row - 1 in
    let slots = c.loop-row.rows.slots.items in
    let repeated = c.loop-row.repeated in
    let old : IsFilled ids many (k + 1) slots repeated = subst (λ j. IsFilled ids many j slots repeated) (let e : c.loop-row.row ≡ k + 1 = omega arith in e) c.loop-row.invariant in
    let one = one_filled ids many k slots repeated (omega arith) (c.requires.within k 0 (omega arith)) old c.put-again.result c.put-again.ensures.had in
    subst (λ s. IsFilled ids many k s c.with_id-repeated.result) (sym c.put-again.ensures.slots) (subst (λ r. IsFilled ids many k (set slots (slice_index ids k) (k + 1)) r) (sym c.with_id-repeated.ensures) one)

pub returns-clause-index : goal.returns-clause-index
returns-clause-index c =
    let slots = c.loop-row.rows.slots.items in
    let none_left : c.loop-row.row ≡ 0 = omega arith in
    record {
      rows = filled_rows c.args.ids.now c.args.slots c.loop-row.row slots c.loop-row.repeated none_left c.loop-row.invariant;
      repeated = filled_twice c.args.ids.now c.args.slots c.loop-row.row slots c.loop-row.repeated none_left c.loop-row.invariant;
    }
