use Rattle.std.proofs.Common.{◌≡◌, ◌+◌, ◌-◌, ◌*◌, ◌/◌, true, ap, arith}
use Rattle.bit_words.specs.Bits.{rank, word_bits}
use Rattle.bit_words.specs.BitView.{bits_of}
use Rattle.bit_words.proofs.Ranks.{rank-le-rank}
use Rattle.rank_select.proofs.CountLaws.{ones_of_chunk}
use Rattle.turan_code.proofs.Faults.{rank_up}
use Rattle.turan_code.proofs.count.ones_in_word.Goals as goal

pub overflow_sub-result : goal.overflow_sub-result
overflow_sub-result g c =
    let w = c.args.from / 64 in
    let l = rank-le-rank true (word_bits c.chunk-chunk.result) (c.args.from - 64 * w) (c.args.to - 64 * w) (omega arith) in
    omega (arith, l, c.ones_below-low.ensures, c.ones_below-high.ensures)

pub returns-clause-ones : goal.returns-clause-ones
returns-clause-ones g c =
    let bits = bits_of c.args.bits.now in
    let w = c.args.from / 64 in
    let low = c.args.from - 64 * w in
    let high = c.args.to - 64 * w in
    let word = c.chunk-chunk.result in
    let a : 64 * w + low ≡ c.args.from = omega arith in
    let b : 64 * w + high ≡ c.args.to = omega arith in
    let r = ones_of_chunk bits word w low c.chunk-chunk.ensures.bits (omega arith) in
    let s = ones_of_chunk bits word w high c.chunk-chunk.ensures.bits (omega arith) in
    let x : rank true bits (64 * w + low) ≡ rank true bits c.args.from = ap (rank true bits) a in
    let y : rank true bits (64 * w + high) ≡ rank true bits c.args.to = ap (rank true bits) b in
    let l = rank-le-rank true (word_bits word) low high (omega arith) in
    omega (arith, r, s, x, y, l, c.ones_below-low.ensures, c.ones_below-high.ensures)

pub returns-clause-few : goal.returns-clause-few
returns-clause-few g c =
    let w = c.args.from / 64 in
    let low = c.args.from - 64 * w in
    let high = c.args.to - 64 * w in
    let word = word_bits c.chunk-chunk.result in
    let l = rank_up true word low (c.args.to - c.args.from) in
    let e : low + (c.args.to - c.args.from) ≡ high = omega arith in
    let f : rank true word (low + (c.args.to - c.args.from)) ≡ rank true word high = ap (rank true word) e in
    omega (arith, l, f, c.ones_below-low.ensures, c.ones_below-high.ensures)
