use Rattle.parens.specs.ParenView.{parens_of}
use Rattle.parens.proofs.Balances.{balanced}
use Rattle.parens.proofs.Arcs.{arc-last, arc-pair, some_last}
use Rattle.parens.proofs.view.ParenView.open.Goals as goal

pub unreachable-requires : goal.unreachable-requires
unreachable-requires g c =
    let bits = parens_of c.args.self.now in
    some_last bits c.args.j (balanced bits c.args.self.now.balanced) c.requires.closes c.requires.within c.in-None.ensures.last

pub returns-clause-pair : goal.returns-clause-pair
returns-clause-pair g c =
    let bits = parens_of c.args.self.now in
    let n = c.in-Some.ensures.last in
    arc-pair bits c.in-Some.place c.args.j (balanced bits c.args.self.now.balanced) (arc-last bits c.in-Some.place c.args.j c.requires.closes c.requires.within n.1 n.2 n.3)
