use Rattle.std.proofs.Common.{arith, ◌∙◌, sym, get_or}
use Rattle.query_text.proofs.Ended.{early, digit_more, digit_value, below_many, ten_times, positive}
use Rattle.query_text.proofs.first.ended_number.Goals as goal

pub loop-len-init : goal.loop-len-init
loop-len-init c = record { spells = c.front_digits-front.ensures.number; small = c.front_digits-front.ensures.small }

pub returns-then-bytes-ne48-clause-number : goal.returns-then-bytes-ne48-clause-number
returns-then-bytes-ne48-clause-number c =
    let e = early c.args.bytes.now c.min-few.result c.loop-len.len c.min-few.ensures c.loop-len-test.true in
    positive c.args.bytes.now c.loop-len.len c.loop-len.number c.loop-len.invariant.spells c.loop-len.invariant.small e.low c.if-number-gt0.true c.if-bytes-ne48.true

pub overflow_mul-number : goal.overflow_mul-number
overflow_mul-number c =
    let e = early c.args.bytes.now c.min-few.result c.loop-len.len c.min-few.ensures c.loop-len-test.true in
    let small = below_many c.loop-len.len c.loop-len.number 18 c.loop-len.invariant.small e.low in
    record { fits = omega arith }

pub overflow_add-number : goal.overflow_add-number
overflow_add-number c =
    let e = early c.args.bytes.now c.min-few.result c.loop-len.len c.min-few.ensures c.loop-len-test.true in
    let small = below_many c.loop-len.len c.loop-len.number 18 c.loop-len.invariant.small e.low in
    let nine = digit_value (get_or c.args.bytes.now c.loop-len.len 0) (sym c.is_ascii_digit.ensures.value ∙ c.if-not-is_ascii_digit.false) in
    rw c.from.ensures (record { fits = omega arith })

pub loop-len-preserved : goal.loop-len-preserved
loop-len-preserved c =
    let e = early c.args.bytes.now c.min-few.result c.loop-len.len c.min-few.ensures c.loop-len-test.true in
    let digit = sym c.is_ascii_digit.ensures.value ∙ c.if-not-is_ascii_digit.false in
    record {
      spells = rw c.from.ensures (digit_more c.args.bytes.now c.loop-len.len c.loop-len.number e.inside c.loop-len.invariant.spells digit);
      small = rw c.from.ensures (ten_times c.loop-len.len c.loop-len.number _ c.loop-len.invariant.small (digit_value _ digit));
    }
