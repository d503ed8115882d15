use Rattle.std.proofs.Common.{arith}
use Rattle.min_max_tree.specs.MinMaxView.{searched}
use Rattle.min_max_tree.proofs.Backs.{back_even, sibling_back_of}
use Rattle.min_max_tree.proofs.view.MinMaxView.sibling_back.Goals as goal

pub returns-then-j-eq0-clause-sibling : goal.returns-then-j-eq0-clause-sibling
returns-then-j-eq0-clause-sibling g c = back_even (searched c.args.self.now) c.args.level.height c.args.j c.args.need c.requires.need c.if-j-eq0.true

pub returns-clause-sibling : goal.returns-clause-sibling
returns-clause-sibling g c =
    sibling_back_of (searched c.args.self.now) c.args.level.height c.args.j c.args.need c.pass_back.result (omega arith) c.requires.within c.pass_back.ensures.passed
