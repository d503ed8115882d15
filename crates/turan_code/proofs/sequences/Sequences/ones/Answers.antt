use Rattle.std.proofs.Common.{◌≡◌, true, length, ap, arith}
use Rattle.bit_words.specs.Bits.{rank}
use Rattle.bit_words.proofs.Ranks.{rank-zero}
use Rattle.turan_code.specs.Sequences.{code_of_sequences}
use Rattle.turan_code.proofs.sequences.Sequences.ones.Goals as goal

pub returns-clause-ones : goal.returns-clause-ones
returns-clause-ones g c =
    let a = (code_of_sequences c.args.self.now).a in
    let all : rank true a c.len.result ≡ rank true a (length a) = ap (rank true a) c.len.ensures in
    omega (arith, all, rank-zero true a, c.ones_between.ensures.ones)
