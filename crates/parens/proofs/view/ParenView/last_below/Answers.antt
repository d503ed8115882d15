use Rattle.std.proofs.Common.{◌≡◌, true, ap, ◌∙◌, arith}
use Rattle.bit_words.specs.Bits.{rank}
use Rattle.bit_words.proofs.Ranks.{rank-le}
use Rattle.parens.specs.ParenView.{parens_of}
use Rattle.parens.proofs.Balances.{balanced}
use Rattle.parens.proofs.Enclosing.{counted-none}
use Rattle.parens.proofs.view.ParenView.last_below.Goals as goal

pub overflow_mul-opens : goal.overflow_mul-opens
overflow_mul-opens g c =
    let bits = parens_of c.args.self.now in
    let opens : c.rank1-opens.result ≡ rank true bits c.args.i = c.rank1-opens.ensures.rank ∙ ap (λ bits. rank true bits c.args.i) c.args.self.now.same in
    omega (arith, opens, rank-le true bits c.args.i, c.args.self.now.few)

pub returns-then-opens-i-clause-last : goal.returns-then-opens-i-clause-last
returns-then-opens-i-clause-last g c =
    let bits = parens_of c.args.self.now in
    let opens : c.rank1-opens.result ≡ rank true bits c.args.i = c.rank1-opens.ensures.rank ∙ ap (λ bits. rank true bits c.args.i) c.args.self.now.same in
    counted-none bits c.args.i c.args.drop c.rank1-opens.result (balanced bits c.args.self.now.balanced) c.requires.within opens (omega arith)
