use Rattle.std.proofs.Common.{arith}
use Rattle.std.proofs.lemmas.Int.{ints}
use Rattle.parens.specs.ParenView.{parens_of}
use Rattle.parens.proofs.Balances.{balanced}
use Rattle.parens.proofs.Commons.{small_fall}
use Rattle.parens.proofs.view.ParenView.fall.Goals as goal

pub overflow_sub-result : goal.overflow_sub-result
overflow_sub-result g c =
    let s = small_fall (parens_of c.args.self.now) c.args.from c.args.to c.least_between-least.result (balanced (parens_of c.args.self.now) c.args.self.now.balanced) c.requires.order c.requires.within c.least_between-least.ensures.least in
    omega (arith, ints, s.0, s.1, s.2, c.excess.ensures.value, c.args.self.now.few)

pub overflow_cast-result : goal.overflow_cast-result
overflow_cast-result g c =
    let s = small_fall (parens_of c.args.self.now) c.args.from c.args.to c.least_between-least.result (balanced (parens_of c.args.self.now) c.args.self.now.balanced) c.requires.order c.requires.within c.least_between-least.ensures.least in
    (omega (arith, ints, s.0, s.1, s.2, c.excess.ensures.value, c.args.self.now.few), omega (arith, ints, s.0, s.1, s.2, c.excess.ensures.value, c.args.self.now.few))

pub returns-clause-fall : goal.returns-clause-fall
returns-clause-fall g c =
    let s = small_fall (parens_of c.args.self.now) c.args.from c.args.to c.least_between-least.result (balanced (parens_of c.args.self.now) c.args.self.now.balanced) c.requires.order c.requires.within c.least_between-least.ensures.least in
    omega (arith, ints, s.0, s.1, s.2, c.excess.ensures.value, c.least_between-least.ensures.least, c.args.self.now.few)

pub returns-clause-small : goal.returns-clause-small
returns-clause-small g c =
    let s = small_fall (parens_of c.args.self.now) c.args.from c.args.to c.least_between-least.result (balanced (parens_of c.args.self.now) c.args.self.now.balanced) c.requires.order c.requires.within c.least_between-least.ensures.least in
    omega (arith, ints, s.0, s.1, s.2, c.excess.ensures.value, c.args.self.now.few)
