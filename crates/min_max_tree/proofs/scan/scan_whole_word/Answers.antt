use Rattle.std.proofs.Common.{arith}
use Rattle.bit_words.specs.BitView.{bits_of}
use Rattle.min_max_tree.proofs.WholeWords.{whole_found, whole_rests, whole_passed}
use Rattle.min_max_tree.proofs.scan.scan_whole_word.Goals as goal

pub returns-then-need-ones-gt64-clause-scanned : goal.returns-then-need-ones-gt64-clause-scanned
returns-then-need-ones-gt64-clause-scanned g c =
    whole_passed (bits_of c.args.bits.now) c.args.from c.word-chunk.result c.args.need c.ones_below-ones.result c.requires.word c.requires.within c.requires.need c.word-chunk.ensures.bits c.ones_below-ones.ensures c.if-need-ones-gt64.true

pub overflow_sub-result-in-None : goal.overflow_sub-result-in-None
overflow_sub-result-in-None g c =
    (whole_rests (bits_of c.args.bits.now) c.args.from c.word-chunk.result c.args.need c.ones_below-ones.result c.requires.word c.requires.within c.requires.need c.word-chunk.ensures.bits c.ones_below-ones.ensures (omega arith) c.in-None.ensures).0

pub returns-in-Some-clause-scanned : goal.returns-in-Some-clause-scanned
returns-in-Some-clause-scanned g c =
    let e = c.in-Some.ensures in
    whole_found (bits_of c.args.bits.now) c.args.from c.word-chunk.result c.args.need c.ones_below-ones.result c.requires.word c.requires.within c.requires.need c.word-chunk.ensures.bits c.ones_below-ones.ensures (omega arith) c.in-Some.place e.0 e.1 e.2 e.3

pub returns-in-None-clause-scanned : goal.returns-in-None-clause-scanned
returns-in-None-clause-scanned g c =
    (whole_rests (bits_of c.args.bits.now) c.args.from c.word-chunk.result c.args.need c.ones_below-ones.result c.requires.word c.requires.within c.requires.need c.word-chunk.ensures.bits c.ones_below-ones.ensures (omega arith) c.in-None.ensures).1
