use Rattle.parens.specs.ParenView.{parens_of}
use Rattle.parens.proofs.Balances.{balanced}
use Rattle.parens.proofs.Enclosing.{last-innermost, last-zero, last-is_innermost}
use Rattle.parens.proofs.view.ParenView.enclose.Goals as goal

pub returns-clause-pair : goal.returns-clause-pair
returns-clause-pair g c =
    let bits = parens_of c.args.self.now in
    last-innermost bits c.args.gap (balanced bits c.args.self.now.balanced) c.requires c.last_lower.result c.last_lower.ensures.last

pub returns-clause-none : goal.returns-clause-none
returns-clause-none g c =
    let bits = parens_of c.args.self.now in
    last-zero bits c.args.gap (balanced bits c.args.self.now.balanced) c.requires c.last_lower.result c.last_lower.ensures.last

pub returns-clause-innermost : goal.returns-clause-innermost
returns-clause-innermost g c =
    let bits = parens_of c.args.self.now in
    last-is_innermost bits c.args.gap (balanced bits c.args.self.now.balanced) c.requires c.last_lower.result c.last_lower.ensures.last
