use Rattle.std.proofs.Common.{◌≡◌, ◌∙◌, true, false, get_or, sym, subst, arith}
use Rattle.bit_words.proofs.Ranks.{rank-le, rank_more_yes, rank_more_no}
use Rattle.rank_select.specs.RankView.{counted}
use Rattle.id_names.proofs.Walks.{mark_within}
use Rattle.id_names.proofs.at_once.pointed.Goals as goal

pub field-requires : goal.field-requires
field-requires g c =
    let v = c.args.inverse in
    let marks = counted v.marks in
    let set : get_or marks c.args.place false ≡ true = subst (λ bits. get_or bits c.args.place false ≡ true) c.bits.ensures.bits (sym c.bit.ensures.bit ∙ c.if-bit.true) in
    omega (arith, mark_within marks c.args.place (omega (arith, v.size, c.requires.within)) set, v.ones, c.requires.marks)

pub overflow_add-result : goal.overflow_add-result
overflow_add-result g c =
    let v = c.args.inverse in
    let marks = counted v.marks in
    let set : get_or marks c.args.place false ≡ true = subst (λ bits. get_or bits c.args.place false ≡ true) c.bits.ensures.bits (sym c.bit.ensures.bit ∙ c.if-bit.true) in
    omega (arith, mark_within marks c.args.place (omega (arith, v.size, c.requires.within)) set, v.ones, c.requires.marks, v.few, v.size, rank-le true marks c.args.place, c.requires.within)

pub returns-then-bit-clause-marks : goal.returns-then-bit-clause-marks
returns-then-bit-clause-marks g c =
    let v = c.args.inverse in
    let marks = counted v.marks in
    let set : get_or marks c.args.place false ≡ true = subst (λ bits. get_or bits c.args.place false ≡ true) c.bits.ensures.bits (sym c.bit.ensures.bit ∙ c.if-bit.true) in
    omega (arith, c.requires.marks, rank_more_yes true marks c.args.place false (omega (arith, v.size, c.requires.within)) set)

pub returns-else-bit-clause-marks : goal.returns-else-bit-clause-marks
returns-else-bit-clause-marks g c =
    let v = c.args.inverse in
    let marks = counted v.marks in
    let clear : get_or marks c.args.place false ≡ false = subst (λ bits. get_or bits c.args.place false ≡ false) c.bits.ensures.bits (sym c.bit.ensures.bit ∙ c.if-bit.false) in
    omega (arith, c.requires.marks, rank_more_no true marks c.args.place false (omega (arith, v.size, c.requires.within)) clear)
