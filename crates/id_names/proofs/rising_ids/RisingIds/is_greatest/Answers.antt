use Rattle.std.proofs.Common.{◌≡◌, ◌+◌, length, ap, sym, ◌∙◌, true, arith}
use Rattle.std.proofs.lemmas.Bool.{eqb-true}
use Rattle.bit_words.specs.Bits.{rank}
use Rattle.bit_words.specs.PackedView.{fields_of}
use Rattle.rank_select.specs.RankView.{counted}
use Rattle.id_names.proofs.DigitBounds.{nine_digits}
use Rattle.id_names.proofs.HighParts.{all_before}
use Rattle.id_names.proofs.rising_ids.RisingIds.is_greatest.Goals as goal

pub returns-clause-greatest : goal.returns-clause-greatest
returns-clause-greatest g c = λ t k h.
    let v = c.args.self.now in
    let n = c.count-count.result in
    let all : rank true (counted v.high) (n + c.args.high) ≡ n = sym c.rank1.ensures.rank ∙ eqb-true c.rank1.result n t in
    all_before (counted v.high) n c.args.high k (omega (arith, c.if-len-count.false, c.len.ensures, ap length c.bits.ensures.bits, c.count-count.ensures, v.size)) all (omega (arith, h, c.count-count.ensures)) (omega (arith, h, v.ones))

pub returns-clause-cost : goal.returns-clause-cost
returns-clause-cost g c =
    let nine = nine_digits (length (fields_of c.args.self.now.lows)) (omega (arith, c.if-count-lt256.false, c.count-count.ensures)) in
    omega (arith, nine, c.rank1.ensures.cost)
