use Rattle.std.proofs.Common.{◌<◌, Bool, List, length, ap, sym, ◌∙◌, subst}
use Rattle.parens.specs.Matching.{is_open}
use Rattle.turan_code.specs.TuranView.{code_of_view}
use Rattle.turan_code.proofs.Views.{first_found}
use Rattle.turan_code.proofs.view.TuranView.is_first.Goals as goal

pub is_open-requires : goal.is_open-requires
is_open-requires g c = subst (λ (bits : List Bool). c.place_of-place.result < length bits) (sym c.parens.ensures.parens) c.place_of-place.ensures.within

pub returns-clause-first : goal.returns-clause-first
returns-clause-first g c =
    let v = c.args.self.now in
    c.is_open.ensures.open ∙ ap (λ bits. is_open bits c.place_of-place.result) c.parens.ensures.parens
    ∙ first_found (code_of_view v) v.sound c.is_tree-kind.result c.args.p c.place_of-place.result (sym c.is_tree-kind.ensures.kind) c.place_of-place.ensures.place
