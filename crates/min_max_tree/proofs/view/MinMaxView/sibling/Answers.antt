use Rattle.std.proofs.Common.{arith, ap, ◌∙◌}
use Rattle.min_max_tree.specs.Tree.{size_at}
use Rattle.min_max_tree.specs.MinMaxView.{searched}
use Rattle.min_max_tree.proofs.Climb.{sibling_odd, sibling_last, sibling_of}
use Rattle.min_max_tree.proofs.view.MinMaxView.sibling.Goals as goal

pub returns-then-j-eq1-clause-sibling : goal.returns-then-j-eq1-clause-sibling
returns-then-j-eq1-clause-sibling g c = sibling_odd (searched c.args.self.now) c.args.level.height c.args.j c.args.need c.requires.need c.if-j-eq1.true

pub returns-then-j-size-clause-sibling : goal.returns-then-j-size-clause-sibling
returns-then-j-size-clause-sibling g c =
    let e = c.size.ensures ∙ ap (λ n. size_at n c.args.level.height) c.len.ensures in
    sibling_last (searched c.args.self.now) c.args.level.height c.args.j c.args.need c.requires.need (omega arith) (omega arith)

pub returns-clause-sibling : goal.returns-clause-sibling
returns-clause-sibling g c =
    let e = c.size.ensures ∙ ap (λ n. size_at n c.args.level.height) c.len.ensures in
    sibling_of (searched c.args.self.now) c.args.level.height c.args.j c.args.need c.pass.result (omega arith) (omega arith) c.pass.ensures.passed
