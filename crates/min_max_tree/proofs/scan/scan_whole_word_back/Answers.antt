use Rattle.std.proofs.Common.{arith, true}
use Rattle.bit_words.specs.Bits.{word_bits}
use Rattle.bit_words.specs.BitView.{bits_of}
use Rattle.bit_words.proofs.Ranks.{rank-le}
use Rattle.min_max_tree.proofs.WholeWords.{whole_left, whole_remains, whole_passed_back}
use Rattle.min_max_tree.proofs.scan.scan_whole_word_back.Goals as goal

pub overflow_sub-result : goal.overflow_sub-result
overflow_sub-result g c =
    (whole_passed_back (bits_of c.args.bits.now) c.args.from c.word-chunk.result c.args.need c.ones_below-ones.result c.requires.word c.requires.within c.requires.need c.word-chunk.ensures.bits c.ones_below-ones.ensures c.if-ones-need.true).0

pub returns-then-ones-need-clause-scanned : goal.returns-then-ones-need-clause-scanned
returns-then-ones-need-clause-scanned g c =
    (whole_passed_back (bits_of c.args.bits.now) c.args.from c.word-chunk.result c.args.need c.ones_below-ones.result c.requires.word c.requires.within c.requires.need c.word-chunk.ensures.bits c.ones_below-ones.ensures c.if-ones-need.true).1

pub overflow_sub-result-in-None : goal.overflow_sub-result-in-None
overflow_sub-result-in-None g c =
    (whole_remains (bits_of c.args.bits.now) c.args.from c.word-chunk.result c.args.need c.ones_below-ones.result c.requires.word c.requires.within c.requires.need c.word-chunk.ensures.bits c.ones_below-ones.ensures (omega (arith, rank-le true (word_bits c.word-chunk.result) 64, c.ones_below-ones.ensures)) c.in-None.ensures).0

pub returns-in-Some-clause-scanned : goal.returns-in-Some-clause-scanned
returns-in-Some-clause-scanned g c =
    let e = c.in-Some.ensures in
    whole_left (bits_of c.args.bits.now) c.args.from c.word-chunk.result c.args.need c.ones_below-ones.result c.requires.word c.requires.within c.requires.need c.word-chunk.ensures.bits c.ones_below-ones.ensures (omega (arith, rank-le true (word_bits c.word-chunk.result) 64, c.ones_below-ones.ensures)) c.in-Some.place e.0 e.1 e.2 e.3

pub returns-in-None-clause-scanned : goal.returns-in-None-clause-scanned
returns-in-None-clause-scanned g c =
    (whole_remains (bits_of c.args.bits.now) c.args.from c.word-chunk.result c.args.need c.ones_below-ones.result c.requires.word c.requires.within c.requires.need c.word-chunk.ensures.bits c.ones_below-ones.ensures (omega (arith, rank-le true (word_bits c.word-chunk.result) 64, c.ones_below-ones.ensures)) c.in-None.ensures).1
