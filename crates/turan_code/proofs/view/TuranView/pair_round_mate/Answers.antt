use Rattle.std.proofs.Common.{◌≡◌, true, false, Some, ap, sym, ◌∙◌}
use Rattle.bit_words.specs.Bits.{rank}
use Rattle.parens.specs.Matching.{is_open}
use Rattle.code_laws.specs.Code.{parens}
use Rattle.turan_code.specs.TuranView.{code_of_view}
use Rattle.turan_code.proofs.Views.{mate_of_open, mate_of_closed}
use Rattle.turan_code.proofs.view.TuranView.pair_round_mate.Goals as goal

pub returns-then-is_open-clause-pair : goal.returns-then-is_open-clause-pair
returns-then-is_open-clause-pair g c =
    let v = c.args.self.now in
    let bits = parens (code_of_view v) c.args.kind in
    let x = c.place_of-place.result in
    let is = c.parens-parens.ensures.parens in
    let opens : is_open bits x ≡ true = ap (λ bits. is_open bits x) (sym is) ∙ sym c.is_open.ensures.open ∙ c.if-is_open.true in
    ap Some (c.opens_before.ensures.opens ∙ ap (λ bits. rank true bits x) is)
    ∙ mate_of_open (code_of_view v) v.sound c.args.kind c.args.p x c.requires.within c.requires.kind c.place_of-place.ensures.place opens

pub returns-else-is_open-clause-pair : goal.returns-else-is_open-clause-pair
returns-else-is_open-clause-pair g c =
    let v = c.args.self.now in
    let bits = parens (code_of_view v) c.args.kind in
    let x = c.place_of-place.result in
    let is = c.parens-parens.ensures.parens in
    let closes : is_open bits x ≡ false = ap (λ bits. is_open bits x) (sym is) ∙ sym c.is_open.ensures.open ∙ c.if-is_open.false in
    c.pair_round.ensures.pair ∙ mate_of_closed (code_of_view v) v.sound c.args.kind c.args.p x c.requires.within c.requires.kind c.place_of-place.ensures.place closes
