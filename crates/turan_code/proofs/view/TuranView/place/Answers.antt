use Rattle.std.proofs.Common.{◌≤◌, true, false, length, sym, subst, arith}
use Rattle.code_laws.specs.Code.{parens}
use Rattle.turan_code.specs.TuranView.{code_of_view}
use Rattle.turan_code.proofs.Views.{place_le}
use Rattle.turan_code.proofs.view.TuranView.place.Goals as goal

pub returns-then-kind-clause-within : goal.returns-then-kind-clause-within
returns-then-kind-clause-within g c =
    let v = c.args.self.now in
    let l = place_le (code_of_view v) v.sound true c.args.p c.requires in
    subst (λ k. c.rank1.result ≤ length (parens (code_of_view v) k)) (sym c.if-kind.true) (omega (arith, l, c.rank1.ensures.rank))

pub returns-else-kind-clause-within : goal.returns-else-kind-clause-within
returns-else-kind-clause-within g c =
    let v = c.args.self.now in
    let l = place_le (code_of_view v) v.sound false c.args.p c.requires in
    subst (λ k. c.rank0.result ≤ length (parens (code_of_view v) k)) (sym c.if-kind.false) (omega (arith, l, c.rank0.ensures.rank))
