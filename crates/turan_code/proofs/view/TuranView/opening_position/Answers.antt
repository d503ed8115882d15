use Rattle.std.proofs.Common.{true, refl, ap, sym, ◌∙◌}
use Rattle.bit_words.specs.Bits.{select}
use Rattle.turan_code.specs.TuranView.{code_of_view}
use Rattle.turan_code.proofs.Views.{chosen, opening_found, opening_missing}
use Rattle.turan_code.proofs.view.TuranView.opening_position.Goals as goal

pub returns-in-Some-clause-position : goal.returns-in-Some-clause-position
returns-in-Some-clause-position g c =
    let v = c.args.self.now in
    let is = c.parens.ensures.parens in
    opening_found (code_of_view v) v.sound c.args.kind c.args.pair c.in-Some.place c.position.result
    (sym c.in-Some.is ∙ chosen true true _ _ _ refl c.open_at.ensures.place ∙ ap (λ bits. select true bits c.args.pair) is) c.position.ensures.position

pub returns-in-None-clause-position : goal.returns-in-None-clause-position
returns-in-None-clause-position g c =
    let v = c.args.self.now in
    let is = c.parens.ensures.parens in
    opening_missing (code_of_view v) v.sound c.args.kind c.args.pair
    (sym c.in-None.is ∙ chosen true true _ _ _ refl c.open_at.ensures.place ∙ ap (λ bits. select true bits c.args.pair) is)
