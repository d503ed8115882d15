use Rattle.std.proofs.Common.{arith}
use Rattle.std.proofs.lemmas.Int.{ints}
use Rattle.bit_words.specs.Bits.{word_bits}
use Rattle.bit_words.proofs.ByteLaws.{excess-zero, least_front-zero, excess_room, fall_more, fall_whole}
use Rattle.bit_words.proofs.in_word.deepest_fall.Goals as goal

pub loop-k-init : goal.loop-k-init
loop-k-init c = record {
  excess = omega (arith, ints, excess-zero (word_bits c.filled_from-filled.result));
  least = omega (arith, ints, least_front-zero (word_bits c.filled_from-filled.result));
}

pub overflow_add-excess : goal.overflow_add-excess
overflow_add-excess c =
    let r = excess_room c.filled_from-filled.result c.loop-k.k c.loop-k.excess (omega arith) c.loop-k.invariant.excess in
    omega (arith, r.1, c.least_of_byte.ensures.few)

pub overflow_sub-excess : goal.overflow_sub-excess
overflow_sub-excess c =
    let r = excess_room c.filled_from-filled.result c.loop-k.k c.loop-k.excess (omega arith) c.loop-k.invariant.excess in
    omega (arith, r.0)

pub overflow_add-excess-in-loop-k : goal.overflow_add-excess-in-loop-k
overflow_add-excess-in-loop-k c =
    let r = excess_room c.filled_from-filled.result c.loop-k.k c.loop-k.excess (omega arith) c.loop-k.invariant.excess in
    omega (arith, r.1, c.excess_of_byte.ensures.few)

pub overflow_sub-excess-in-loop-k : goal.overflow_sub-excess-in-loop-k
overflow_sub-excess-in-loop-k c =
    let r = excess_room c.filled_from-filled.result c.loop-k.k c.loop-k.excess (omega arith) c.loop-k.invariant.excess in
    omega (arith, r.0)

pub loop-k-preserved : goal.loop-k-preserved
loop-k-preserved c =
    let i = c.loop-k.invariant in
    let r = fall_more c.filled_from-filled.result c.loop-k.k c.byte_from-byte.result c.loop-k.excess c.loop-k.least c.excess_of_byte.result c.least_of_byte.result (omega arith) c.byte_from-byte.ensures i.excess i.least c.excess_of_byte.ensures.value c.least_of_byte.ensures.value in
    record { excess = r.0; least = rw c.min-least.ensures r.1 }

pub overflow_sub-result : goal.overflow_sub-result
overflow_sub-result c =
    let e = c.filled_from-filled.ensures in
    let r = fall_whole c.args.word c.filled_from-filled.result c.args.count c.loop-k.k c.loop-k.least c.requires (omega arith) (omega arith) e.low e.high c.loop-k.invariant.least in
    r.1

pub returns-clause-fall : goal.returns-clause-fall
returns-clause-fall c =
    let e = c.filled_from-filled.ensures in
    let r = fall_whole c.args.word c.filled_from-filled.result c.args.count c.loop-k.k c.loop-k.least c.requires (omega arith) (omega arith) e.low e.high c.loop-k.invariant.least in
    omega (arith, ints, r.0, r.1)

pub returns-clause-few : goal.returns-clause-few
returns-clause-few c =
    let e = c.filled_from-filled.ensures in
    let r = fall_whole c.args.word c.filled_from-filled.result c.args.count c.loop-k.k c.loop-k.least c.requires (omega arith) (omega arith) e.low e.high c.loop-k.invariant.least in
    omega (arith, r.2)
