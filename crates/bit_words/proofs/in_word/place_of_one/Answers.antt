use Rattle.std.proofs.Common.{◌≡◌, ◌+◌, ◌*◌, true, false, length, arith, sym, ◌∙◌}
use Rattle.bit_words.specs.Bits.{word_bits}
use Rattle.bit_words.proofs.Ranks.{rank-zero}
use Rattle.bit_words.proofs.BitLists.{length-word_bits, get_or-word_bits}
use Rattle.bit_words.proofs.ByteLaws.{rank_from}
use Rattle.bit_words.proofs.in_word.place_of_one.Goals as goal

pub loop-k-init : goal.loop-k-init
loop-k-init c = record { below = omega (arith, rank-zero true (word_bits c.args.word)) }

pub returns-then-left-ones : goal.returns-then-left-ones
returns-then-left-ones c =
    let at = 8 * c.loop-k.k in
    let p = c.place_in_byte.result in
    let s = c.place_in_byte.ensures in
    let r = rank_from c.args.word at c.byte_from-byte.result c.byte_from-byte.ensures true p (omega (arith, s.within)) (omega (arith, s.within)) in (
      rw length-word_bits (omega (arith, s.within)),
      get_or-word_bits c.args.word (at + p) false (omega (arith, s.within)) ∙ sym (c.byte_from-byte.ensures p s.within (omega (arith, s.within))) ∙ s.one,
      omega (arith, r, s.below, c.loop-k.invariant.below),
    )

pub loop-k-preserved : goal.loop-k-preserved
loop-k-preserved c =
    let at = 8 * c.loop-k.k in
    let e : 8 * (c.loop-k.k + 1) ≡ at + 8 = omega arith in
    let r = rank_from c.args.word at c.byte_from-byte.result c.byte_from-byte.ensures true 8 (omega arith) (omega arith) in
    record { below = rw e (omega (arith, r, c.ones_of_byte-ones.ensures, c.loop-k.invariant.below)) }

pub returns : goal.returns
returns c =
    let e : 8 * c.loop-k.k ≡ length (word_bits c.args.word) = omega (arith, length-word_bits c.args.word) in
    rw (← e) (omega (arith, c.loop-k.invariant.below))
