use Rattle.std.proofs.Common.{ap, arith, refl, sym, ◌∙◌, get_or}
use Rattle.std.specs.Char.{is_ascii_digit}
use Rattle.std.proofs.lemmas.List.{take_all}
use Rattle.std.proofs.lemmas.List.Folds.{list_all_more}
use Rattle.topo_base.specs.Spelling.{digits_behind}
use Rattle.query_text.proofs.Ended.{none_yet, none_spelled, told_of_all, digit_at, digit_more, digit_least, digit_value, below_many, ten_times}
use Rattle.query_text.proofs.first.eight_digits.Goals as goal

pub loop-byte-init : goal.loop-byte-init
loop-byte-init c = refl

pub loop-byte-preserved : goal.loop-byte-preserved
loop-byte-preserved c =
    rw (c.loop-byte.invariant, c.is_ascii_digit-digits.ensures.value) (sym (list_all_more is_ascii_digit c.args.bytes.now c.loop-byte.byte-index 0 (omega arith)))

pub returns-then-not-digits-clause-number : goal.returns-then-not-digits-clause-number
returns-then-not-digits-clause-number c =
    sym (none_spelled 0 c.args.bytes.now (told_of_all c.args.bytes.now c.loop-byte.byte-index c.loop-byte.digits (omega arith) c.loop-byte.invariant ∙ c.if-not-digits.true))

pub loop-byte-2-init : goal.loop-byte-2-init
loop-byte-2-init c = record { spells = none_yet; small = omega arith }

pub overflow_mul-number : goal.overflow_mul-number
overflow_mul-number c =
    let small = below_many c.loop-byte-2.byte-index c.loop-byte-2.number 8 c.loop-byte-2.invariant.small (omega arith) in
    record { fits = omega arith }

pub overflow_sub-byte : goal.overflow_sub-byte
overflow_sub-byte c =
    let all = told_of_all c.args.bytes.now c.loop-byte.byte-index c.loop-byte.digits (omega arith) c.loop-byte.invariant ∙ c.if-not-digits.false in
    digit_least _ (digit_at c.args.bytes.now c.loop-byte-2.byte-index all (omega arith))

pub overflow_add-number : goal.overflow_add-number
overflow_add-number c =
    let all = told_of_all c.args.bytes.now c.loop-byte.byte-index c.loop-byte.digits (omega arith) c.loop-byte.invariant ∙ c.if-not-digits.false in
    let nine = digit_value (get_or c.args.bytes.now c.loop-byte-2.byte-index 0) (digit_at c.args.bytes.now c.loop-byte-2.byte-index all (omega arith)) in
    let small = below_many c.loop-byte-2.byte-index c.loop-byte-2.number 8 c.loop-byte-2.invariant.small (omega arith) in
    rw c.from.ensures (record { fits = omega arith })

pub loop-byte-2-preserved : goal.loop-byte-2-preserved
loop-byte-2-preserved c =
    let all = told_of_all c.args.bytes.now c.loop-byte.byte-index c.loop-byte.digits (omega arith) c.loop-byte.invariant ∙ c.if-not-digits.false in
    let digit = digit_at c.args.bytes.now c.loop-byte-2.byte-index all (omega arith) in
    record {
      spells = rw c.from.ensures (digit_more c.args.bytes.now c.loop-byte-2.byte-index c.loop-byte-2.number (omega arith) c.loop-byte-2.invariant.spells digit);
      small = rw c.from.ensures (ten_times c.loop-byte-2.byte-index c.loop-byte-2.number _ c.loop-byte-2.invariant.small (digit_value _ digit));
    }

pub returns-clause-number : goal.returns-clause-number
returns-clause-number c =
    sym (ap (digits_behind 0) (sym (take_all c.loop-byte-2.byte-index c.args.bytes.now (omega arith))) ∙ c.loop-byte-2.invariant.spells)

pub returns-clause-small : goal.returns-clause-small
returns-clause-small c = below_many c.loop-byte-2.byte-index c.loop-byte-2.number 8 c.loop-byte-2.invariant.small (omega arith)
