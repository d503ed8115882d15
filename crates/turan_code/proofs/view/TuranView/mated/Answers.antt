use Rattle.std.proofs.Common.{◌<◌, Bool, List, length, ap, sym, ◌∙◌, subst}
use Rattle.parens.specs.Matching.{mate_of}
use Rattle.turan_code.specs.TuranView.{code_of_view}
use Rattle.turan_code.proofs.Views.{mate_found, mate_there}
use Rattle.turan_code.proofs.view.TuranView.mated.Goals as goal

pub mate-place-requires : goal.mate-place-requires
mate-place-requires g c = subst (λ (bits : List Bool). c.place_of-own.result < length bits) (sym c.parens.ensures.parens) c.place_of-own.ensures.within

pub unreachable-requires : goal.unreachable-requires
unreachable-requires g c =
    let v = c.args.self.now in
    mate_there (code_of_view v) v.sound c.args.kind c.args.p c.place_of-own.result c.mate-place.result c.requires.within c.requires.kind c.place_of-own.ensures.place
    (c.mate-place.ensures.mate ∙ ap (λ bits. mate_of bits c.place_of-own.result) c.parens.ensures.parens) (sym c.in-None.is ∙ c.position_near.ensures.position)

pub returns-clause-mate : goal.returns-clause-mate
returns-clause-mate g c =
    let v = c.args.self.now in
    mate_found (code_of_view v) v.sound c.args.kind c.args.p c.in-Some.position c.place_of-own.result c.mate-place.result c.requires.kind c.place_of-own.ensures.place
    (c.mate-place.ensures.mate ∙ ap (λ bits. mate_of bits c.place_of-own.result) c.parens.ensures.parens) (sym c.in-Some.is ∙ c.position_near.ensures.position)
