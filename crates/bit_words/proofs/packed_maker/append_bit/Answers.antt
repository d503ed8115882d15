use Rattle.std.proofs.Common.{rules, ◌<◌, ◌^◌, arith, ◌∙◌, ap}
use Rattle.bit_words.specs.Bits.{stream}
use Rattle.bit_words.proofs.packed_maker.append_bit.Goals as goal
use Rattle.bit_words.proofs.Streams.{append_one, append_none}

pub returns-in_ok-push_word-clause-stream : goal.returns-in_ok-push_word-clause-stream
returns-in_ok-push_word-clause-stream c =
    ap stream c.in_ok-push_word.ensures.ok
    ∙ append_none c.args.words.now.items c.args.from 1 c.args.bit c.requires.size c.requires.rest (omega arith) c.requires.fits c.if-place-eq0.true

pub returns-else-place-eq0-clause-stream : goal.returns-else-place-eq0-clause-stream
returns-else-place-eq0-clause-stream c =
    let small : c.index.result.now < 2 ^ 64 = search rules in
    append_one c.args.words.now.items c.args.from 1 c.args.bit c.requires.size c.requires.rest (omega arith) c.requires.fits c.index.result.now (omega arith) c.index.ensures small (omega arith)
