use Rattle.std.proofs.Common.{◌≤◌, ◌<◌, length, arith, ◌∙◌, sym}
use Rattle.std.specs.Prelude.{slice_index_or}
use Rattle.topo_csv.proofs.Cutting.{no_digits, digit_more, digit_value, digits_within, one_digit_within}
use Rattle.topo_csv.proofs.plain.front_digits.Goals as goal

pub overflow_mul-number : goal.overflow_mul-number
overflow_mul-number c =
    let few : c.loop-count.count ≤ 17 = let most = c.min-most.ensures in let more = c.loop-count-test.true in omega arith in
    let small = digits_within c.loop-count.count c.loop-count.number 17 c.loop-count.invariant.small few in
    record { fits = omega arith }

pub overflow_add-number : goal.overflow_add-number
overflow_add-number c =
    let few : c.loop-count.count ≤ 17 = let most = c.min-most.ensures in let more = c.loop-count-test.true in omega arith in
    let small = digits_within c.loop-count.count c.loop-count.number 17 c.loop-count.invariant.small few in
    let nine = digit_value (slice_index_or c.args.bytes.now c.loop-count.count 0) (sym c.is_ascii_digit.ensures.value ∙ c.if-is_ascii_digit.true) in
    rw c.from.ensures (record { fits = omega arith })

pub loop-count-init : goal.loop-count-init
loop-count-init c = record { within = omega arith; spelled = no_digits; small = omega arith }

pub loop-count-preserved : goal.loop-count-preserved
loop-count-preserved c =
    let inv = c.loop-count.invariant in
    let more = c.loop-count-test.true in
    let digit = sym c.is_ascii_digit.ensures.value ∙ c.if-is_ascii_digit.true in
    record {
      within = omega arith;
      spelled = let inside : c.loop-count.count < length c.args.bytes.now = let most = c.min-most.ensures in omega arith in rw c.from.ensures (digit_more c.args.bytes.now c.loop-count.count c.loop-count.number inside inv.spelled digit);
      small = rw c.from.ensures (one_digit_within c.loop-count.count c.loop-count.number _ inv.small (digit_value (slice_index_or c.args.bytes.now c.loop-count.count 0) digit));
    }

pub returns-else-is_ascii_digit-clause-small : goal.returns-else-is_ascii_digit-clause-small
returns-else-is_ascii_digit-clause-small c =
    let few : c.loop-count.count ≤ 18 = let most = c.min-most.ensures in let inv = c.loop-count.invariant in omega arith in
    digits_within c.loop-count.count c.loop-count.number 18 c.loop-count.invariant.small few

pub returns-after-loop-count-clause-small : goal.returns-after-loop-count-clause-small
returns-after-loop-count-clause-small c =
    let few : c.loop-count.count ≤ 18 = let most = c.min-most.ensures in let inv = c.loop-count.invariant in omega arith in
    digits_within c.loop-count.count c.loop-count.number 18 c.loop-count.invariant.small few
