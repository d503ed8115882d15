use Rattle.std.proofs.Common.{length, arith, true, false}
use Rattle.bit_words.specs.PackedView.{fields_of}
use Rattle.bit_words.proofs.Ranks.{rank_both, rank-le, rank-le-rank}
use Rattle.rank_select.specs.RankView.{counted}
use Rattle.id_names.proofs.HighParts.{before_zero, after_zero, no_zero}
use Rattle.id_names.proofs.DigitBounds.{high_digits}
use Rattle.id_names.proofs.rising_ids.RisingIds.below.Goals as goal

pub overflow_sub-result : goal.overflow_sub-result
overflow_sub-result g c =
    let high = counted c.args.self.now.high in
    let s = c.in-Some-select0.ensures.selected in
    omega (arith, s.2, rank-le false high c.in-Some-select0.zero)

pub returns-in-Some-select0-clause-within : goal.returns-in-Some-select0-clause-within
returns-in-Some-select0-clause-within g c =
    let high = counted c.args.self.now.high in
    let s = c.in-Some-select0.ensures.selected in
    let z = c.in-Some-select0.zero in
    omega (arith, s.2, rank_both high z (omega (arith, s.0)), rank-le-rank true high z (length high) (omega (arith, s.0)), c.args.self.now.ones)

pub returns-in-Some-select0-clause-below : goal.returns-in-Some-select0-clause-below
returns-in-Some-select0-clause-below g c = λ k h.
    let high = counted c.args.self.now.high in
    let few = before_zero high c.in-Some.last c.in-Some-select0.zero k c.in-Some-select0.ensures.selected h in
    omega (arith, few, c.in-Some.ensures)

pub returns-in-Some-select0-clause-above : goal.returns-in-Some-select0-clause-above
returns-in-Some-select0-clause-above g c = λ k h l.
    let high = counted c.args.self.now.high in
    let more = after_zero high c.in-Some.last c.in-Some-select0.zero k c.in-Some-select0.ensures.selected h (omega (arith, l, c.args.self.now.ones)) in
    omega (arith, more, c.in-Some.ensures)

pub returns-in-Some-select0-clause-cost : goal.returns-in-Some-select0-clause-cost
returns-in-Some-select0-clause-cost g c = omega (arith, high_digits (length (fields_of c.args.self.now.lows)) (length (counted c.args.self.now.high)) c.args.self.now.size)

pub returns-in-None-clause-below : goal.returns-in-None-clause-below
returns-in-None-clause-below g c = λ k h.
    let high = counted c.args.self.now.high in
    let few = no_zero high c.in-Some.last k c.in-None.ensures.selected (omega (arith, h, c.args.self.now.ones, c.count.ensures)) in
    omega (arith, few, c.in-Some.ensures)

pub returns-in-None-clause-cost : goal.returns-in-None-clause-cost
returns-in-None-clause-cost g c = omega (arith, high_digits (length (fields_of c.args.self.now.lows)) (length (counted c.args.self.now.high)) c.args.self.now.size)
