use Rattle.std.specs.Prelude.{option_map}
use Rattle.std.proofs.Common.{◌≤◌, Bool, true, List, length, Some, ap, sym, ◌∙◌, subst}
use Rattle.bit_words.specs.Bits.{rank}
use Rattle.parens.specs.Matching.{innermost}
use Rattle.code_laws.specs.Code.{parens}
use Rattle.turan_code.specs.TuranView.{code_of_view}
use Rattle.turan_code.proofs.view.TuranView.pair_round.Goals as goal

pub enclose-requires : goal.enclose-requires
enclose-requires g c = subst (λ (bits : List Bool). c.args.place ≤ length bits) (sym c.parens-parens.ensures.parens) c.requires

pub returns-in-Some-clause-pair : goal.returns-in-Some-clause-pair
returns-in-Some-clause-pair g c =
    let is = c.parens-parens.ensures.parens in
    let bits = parens (code_of_view c.args.self.now) c.args.kind in
    ap Some (c.opens_before.ensures.opens ∙ ap (λ bits. rank true bits c.in-Some.opening) is)
    ∙ ap (option_map (rank true bits)) (sym c.in-Some.is ∙ c.enclose.ensures.pair ∙ ap (λ bits. innermost bits c.args.place) is)

pub returns-in-None-clause-pair : goal.returns-in-None-clause-pair
returns-in-None-clause-pair g c =
    let is = c.parens-parens.ensures.parens in
    let bits = parens (code_of_view c.args.self.now) c.args.kind in
    ap (option_map (rank true bits)) (sym c.in-None.is ∙ c.enclose.ensures.pair ∙ ap (λ bits. innermost bits c.args.place) is)
