use Rattle.std.proofs.Common.{◌-◌}
use Rattle.parens.specs.ParenView.{parens_of}
use Rattle.parens.proofs.Balances.{balanced}
use Rattle.parens.proofs.Arcs.{arc-next, arc-pair, some_next}
use Rattle.parens.proofs.view.ParenView.close.Goals as goal

pub unreachable-requires : goal.unreachable-requires
unreachable-requires g c =
    let bits = parens_of c.args.self.now in
    some_next bits c.args.i (balanced bits c.args.self.now.balanced) c.requires c.in-None.ensures.next

pub returns-clause-pair : goal.returns-clause-pair
returns-clause-pair g c =
    let bits = parens_of c.args.self.now in
    let n = c.in-Some.ensures.next in
    arc-pair bits c.args.i (c.in-Some.end - 1) (balanced bits c.args.self.now.balanced) (arc-next bits c.args.i c.in-Some.end c.requires n.0 n.1 n.2 n.3)
