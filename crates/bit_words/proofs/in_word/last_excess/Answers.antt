use Rattle.std.proofs.Common.{◌≡◌, true, arith}
use Rattle.bit_words.specs.Bits.{rank, word_bits}
use Rattle.bit_words.proofs.ByteSearches.{stays_some_back, level_back, passed_back, last_in_byte, no_last_in_byte}
use Rattle.bit_words.proofs.in_word.last_excess.Goals as goal

pub returns-then-from-at : goal.returns-then-from-at
returns-then-from-at c =
    let i = c.loop-at.invariant in
    last_in_byte c.args.word c.args.from c.args.to c.args.drop c.loop-at.at c.loop-at.need c.byte_up_to-byte.result c.requires.within i.high c.loop-at-test.true (i.level c.loop-at-test.true) i.passed c.byte_up_to-byte.ensures
    c.in-Some.place c.in-Some.ensures c.if-from-at.true

pub returns-else-from-at : goal.returns-else-from-at
returns-else-from-at c =
    let i = c.loop-at.invariant in
    no_last_in_byte c.args.word c.args.from c.args.to c.args.drop c.loop-at.at c.loop-at.need c.byte_up_to-byte.result c.requires.within i.high c.loop-at-test.true (i.level c.loop-at-test.true) i.passed c.byte_up_to-byte.ensures
    c.in-Some.place c.in-Some.ensures c.if-from-at.false

pub overflow_sub-need : goal.overflow_sub-need
overflow_sub-need c =
    let s = stays_some_back c.byte_up_to-byte.result c.loop-at.need c.loop-at.invariant.some c.in_default.ensures in
    omega (arith, s, c.from.ensures, c.ones_of_byte.ensures)

pub loop-at-preserved : goal.loop-at-preserved
loop-at-preserved c =
    let i = c.loop-at.invariant in
    let n = c.in_default.ensures in
    let e : c.from.result ≡ rank true (word_bits c.byte_up_to-byte.result) 8 = omega (arith, c.from.ensures, c.ones_of_byte.ensures) in
    let s = stays_some_back c.byte_up_to-byte.result c.loop-at.need i.some n in
    rw (c.saturating_sub-at.ensures, e) (record {
      high = omega arith;
      level = λ h. level_back c.args.word c.args.from c.args.to c.args.drop c.loop-at.at c.loop-at.need c.byte_up_to-byte.result c.requires.within i.high c.loop-at-test.true (i.level c.loop-at-test.true) i.passed c.byte_up_to-byte.ensures h s;
      some = omega (arith, s);
      few = λ h. omega (arith, i.few c.loop-at-test.true);
      passed = λ q a b d. passed_back c.args.word c.args.from c.args.to c.args.drop c.loop-at.at c.loop-at.need c.byte_up_to-byte.result c.requires.within i.high c.loop-at-test.true (i.level c.loop-at-test.true) i.passed c.byte_up_to-byte.ensures 0 (λ p l m. n p l m) q (omega arith) b d;
    })
