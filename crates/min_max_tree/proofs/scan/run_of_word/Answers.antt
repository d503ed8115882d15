use Rattle.std.proofs.Common.{◌≡◌, ◌+◌, ◌-◌, ◌/◌, arith}
use Rattle.bit_words.specs.BitView.{bits_of}
use Rattle.min_max_tree.proofs.Fronts.{run-shifted, chunk-front}
use Rattle.min_max_tree.proofs.scan.run_of_word.Goals as goal

pub returns-clause-run : goal.returns-clause-run
returns-clause-run g c =
    let bits = bits_of c.args.bits.now in
    let count = c.args.to - c.args.from in
    let e : c.args.to ≡ c.args.from + count = omega arith in
    let agree = chunk-front bits (c.args.from / 64) c.chunk-chunk.result c.args.from count c.chunk-chunk.ensures.bits (omega arith) (omega arith) in
    run-shifted bits _ c.args.from count (omega arith) (omega arith) agree c.args.to c.run_of_front.result e c.run_of_front.ensures
