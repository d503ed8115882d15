use Rattle.std.proofs.Common.{ap, sym, ◌∙◌, arith, length, true, subst, ◌≡◌}
use Rattle.std.specs.Prelude.{Option, option_map, Some}
use Rattle.bit_words.specs.Bits.{rank}
use Rattle.parens.specs.ParenView.{parens_of}
use Rattle.parens.specs.Matching.{innermost}
use Rattle.parens.proofs.Balances.{balanced}
use Rattle.code_laws.proofs.Apart.{fewer}
use Rattle.region_tree.specs.Nesting.{parent_number}
use Rattle.region_tree.proofs.Opened.{parent-at}
use Rattle.region_tree.proofs.view.RegionView.parent.Goals as goal

pub returns-in_err-round-clause-parent : goal.returns-in_err-round-clause-parent
returns-in_err-round-clause-parent g c =
    let bits = parens_of c.args.self.now.tree in
    c.from_residual.ensures ∙ parent-at bits c.args.region c.opening-place.result _ c.opening-place.ensures.place (sym c.in_err-round.was ∙ c.enclose.ensures.pair)

pub returns-clause-parent : goal.returns-clause-parent
returns-clause-parent g c =
    let bits = parens_of c.args.self.now.tree in
    ap Some c.opens_before.ensures.opens ∙ parent-at bits c.args.region c.opening-place.result _ c.opening-place.ensures.place (sym c.in_ok-round.was ∙ c.enclose.ensures.pair)

pub returns-clause-lower : goal.returns-clause-lower
returns-clause-lower g c =
    let bits = parens_of c.args.self.now.tree in
    let inner = c.in_ok-round.ensures.innermost in
    let less = fewer bits (balanced bits c.args.self.now.tree.balanced) c.in_ok-round.round c.opening-place.result inner.before (omega (arith, c.opening-place.ensures.within)) inner.opens in
    omega (arith, less, c.opens_before.ensures.opens, c.opening-place.ensures.number)
