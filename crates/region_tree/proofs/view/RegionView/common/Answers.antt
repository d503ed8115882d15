use Rattle.std.proofs.Common.{ap, sym, ◌∙◌, arith, length, true}
use Rattle.std.specs.Prelude.{option_map, Some}
use Rattle.bit_words.specs.Bits.{rank}
use Rattle.parens.specs.ParenView.{parens_of}
use Rattle.parens.proofs.Balances.{balanced}
use Rattle.parens.proofs.Arcs.{open_within}
use Rattle.code_laws.proofs.Apart.{fewer}
use Rattle.region_tree.proofs.Common.{common-at}
use Rattle.region_tree.proofs.view.RegionView.common.Goals as goal

pub returns-in_err-round-clause-common : goal.returns-in_err-round-clause-common
returns-in_err-round-clause-common g c =
    let bits = parens_of c.args.self.now.tree in
    let one = c.opening-first_place in
    let two = c.opening-second_place in
    c.from_residual.ensures
    ∙ common-at bits (balanced bits c.args.self.now.tree.balanced) c.args.first c.args.second one.result two.result _ one.ensures.number two.ensures.number one.ensures.opens two.ensures.opens (sym c.in_err-round.was ∙ c.common.ensures.pair)

pub returns-clause-common : goal.returns-clause-common
returns-clause-common g c =
    let bits = parens_of c.args.self.now.tree in
    let one = c.opening-first_place in
    let two = c.opening-second_place in
    ap Some c.opens_before.ensures.opens
    ∙ common-at bits (balanced bits c.args.self.now.tree.balanced) c.args.first c.args.second one.result two.result _ one.ensures.number two.ensures.number one.ensures.opens two.ensures.opens (sym c.in_ok-round.was ∙ c.common.ensures.pair)

pub returns-clause-within : goal.returns-clause-within
returns-clause-within g c =
    let v = c.args.self.now in
    let bits = parens_of v.tree in
    let opens = c.in_ok-round.ensures.common.first.opens in
    let less = fewer bits (balanced bits v.tree.balanced) c.in_ok-round.round (length bits) (open_within bits c.in_ok-round.round opens) (omega arith) opens in
    omega (arith, less, c.opens_before.ensures.opens, v.count)
