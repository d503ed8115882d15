use Rattle.std.proofs.Common.{◌≤◌, true, arith}
use Rattle.bit_words.specs.Bits.{rank, word_bits}
use Rattle.bit_words.proofs.BitLists.{length-word_bits}
use Rattle.rank_select.proofs.view.place_below.Goals as goal

pub unreachable-requires : goal.unreachable-requires
unreachable-requires c =
    let none : rank true (word_bits c.args.word) 64 ≤ c.args.j = rw length-word_bits at c.in-None.ensures in
    omega arith
