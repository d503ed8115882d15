use Rattle.std.proofs.Common.{arith, length}
use Rattle.min_max_tree.specs.MinMaxView.{searched}
use Rattle.min_max_tree.proofs.Rises.{rise-even, rise-odd, there-before}
use Rattle.min_max_tree.proofs.view.MinMaxView.add_left.Goals as goal

pub node-node-requires-clause-within : goal.node-node-requires-clause-within
node-node-requires-clause-within g c = there-before (length (searched c.args.self.now)) c.args.level.height c.args.j (omega arith) c.requires.within

pub returns-then-j-eq0-clause-rise : goal.returns-then-j-eq0-clause-rise
returns-then-j-eq0-clause-rise g c = rise-even (searched c.args.self.now) c.args.level.height c.args.j c.args.rise c.if-j-eq0.true

pub returns-clause-rise : goal.returns-clause-rise
returns-clause-rise g c = rise-odd (searched c.args.self.now) c.args.level.height c.args.j c.args.rise c.node-node.result.total (omega arith) c.requires.within c.requires.low c.node-node.ensures.total
