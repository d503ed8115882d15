use Rattle.std.proofs.Common.{◌≡◌, ◌<◌, false, length, get_or, sym, subst, arith}
use Rattle.bit_words.specs.PackedView.{fields_of}
use Rattle.rank_select.specs.RankView.{counted}
use Rattle.id_names.proofs.Following.{followed_more}
use Rattle.id_names.proofs.ways.Way.step.Goals as goal

pub returns-clause-followed : goal.returns-clause-followed
returns-clause-followed g c =
    let v = c.args.inverse in
    let next = c.field-number.result in
    let within : next < length (fields_of v.places) = omega (arith, c.if-number-count.false, c.count.ensures) in
    let ends : get_or (counted v.marks) next false ≡ c.bit.result = subst (λ bits. get_or bits next false ≡ c.bit.result) c.bits.ensures.bits (sym c.bit.ensures.bit) in
    followed_more (fields_of v.places) (counted v.marks) c.args.self next c.bit.result c.requires.followed c.if-self.false c.field-number.ensures.field within ends
