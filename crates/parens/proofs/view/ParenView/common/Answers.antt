use Rattle.std.proofs.Common.{arith, ◌+◌, ◌-◌, ◌∙◌, refl}
use Rattle.std.proofs.lemmas.Int.{ints}
use Rattle.bit_words.specs.Bits.{excess}
use Rattle.min_max_tree.specs.Tree.{least}
use Rattle.parens.specs.ParenView.{parens_of}
use Rattle.parens.proofs.Balances.{balanced}
use Rattle.parens.proofs.Commons.{last-common, common-said, common-none_said, common-self}
use Rattle.parens.proofs.view.ParenView.common.Goals as goal

pub returns-clause-pair : goal.returns-clause-pair
returns-clause-pair g c =
    let bits = parens_of c.args.self.now in
    let low = c.min-low.result in
    let high = c.max.result in
    last-common bits c.args.i c.args.j low high (balanced bits c.args.self.now.balanced) c.requires.first c.requires.second c.min-low.ensures c.max.ensures
    (least (excess bits) (low + 1) (high + 1 - (low + 1))) refl (c.fall-fall.result + 1) (let f = c.fall-fall.ensures.fall in omega (arith, ints, f)) c.backward.result c.backward.ensures.last

pub returns-clause-itself : goal.returns-clause-itself
returns-clause-itself g c e =
    let bits = parens_of c.args.self.now in
    returns-clause-pair g c ∙ common-self bits c.args.i c.args.j (balanced bits c.args.self.now.balanced) c.requires.first e

pub returns-clause-none : goal.returns-clause-none
returns-clause-none g c =
    let bits = parens_of c.args.self.now in
    common-none_said bits c.args.i c.args.j (balanced bits c.args.self.now.balanced) c.requires.first c.requires.second c.backward.result (returns-clause-pair g c)

pub returns-clause-common : goal.returns-clause-common
returns-clause-common g c =
    let bits = parens_of c.args.self.now in
    common-said bits c.args.i c.args.j (balanced bits c.args.self.now.balanced) c.requires.first c.requires.second c.backward.result (returns-clause-pair g c)
