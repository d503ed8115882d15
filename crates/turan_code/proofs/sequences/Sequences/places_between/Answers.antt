use Rattle.std.proofs.Common.{◌≡◌, ◌+◌, ◌-◌, sym, subst, arith}
use Rattle.bit_words.specs.Bits.{rank}
use Rattle.bit_words.proofs.Ranks.{rank_both}
use Rattle.turan_code.specs.Sequences.{code_of_sequences}
use Rattle.turan_code.proofs.sequences.Sequences.places_between.Goals as goal

pub returns-then-kind-clause-places : goal.returns-then-kind-clause-places
returns-then-kind-clause-places g c =
    let a = (code_of_sequences c.args.self.now).a in
    subst (λ kind. rank kind a c.args.from + c.ones_between-ones.result ≡ rank kind a c.args.to) (sym c.if-kind.true) c.ones_between-ones.ensures.ones

pub returns-else-kind-clause-places : goal.returns-else-kind-clause-places
returns-else-kind-clause-places g c =
    let a = (code_of_sequences c.args.self.now).a in
    let low = rank_both a c.args.from (omega (arith, c.requires.order, c.requires.within)) in
    let high = rank_both a c.args.to c.requires.within in
    subst (λ kind. rank kind a c.args.from + (c.args.to - c.args.from - c.ones_between-ones.result) ≡ rank kind a c.args.to) (sym c.if-kind.false)
    (omega (arith, low, high, c.ones_between-ones.ensures.ones, c.ones_between-ones.ensures.few, c.requires.order))
