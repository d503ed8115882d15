use Rattle.std.proofs.Common.{arith, length, subst, ◌≡◌, ◌≤◌, ◌+◌}
use Rattle.min_max_tree.specs.MinMaxView.{searched}
use Rattle.min_max_tree.specs.Node.{IsRun}
use Rattle.min_max_tree.specs.Tree.{node_from}
use Rattle.min_max_tree.proofs.Runs.{run-none}
use Rattle.min_max_tree.proofs.Between.{node-run, whole-there, whole-run}
use Rattle.min_max_tree.proofs.view.MinMaxView.one_or_none.Goals as goal

pub returns-then-from-to-clause-run : goal.returns-then-from-to-clause-run
returns-then-from-to-clause-run g c =
    let bits = searched c.args.self.now in
    let h = c.args.level.height in
    let none : IsRun bits (node_from h c.args.from) (node_from h c.args.from) c.empty.result = rw c.empty.ensures (run-none bits (node_from h c.args.from)) in
    subst (λ x. IsRun bits (node_from h c.args.from) (node_from h x) c.empty.result) c.if-from-to.true none

pub node-requires-clause-within : goal.node-requires-clause-within
node-requires-clause-within g c =
    let len = length (searched c.args.self.now) in
    let h = c.args.level.height in
    let e : c.args.to ≡ c.args.from + 1 = omega arith in
    whole-there len h c.args.from (subst (λ x. node_from h x ≤ len) e c.requires.within)

pub returns-clause-run : goal.returns-clause-run
returns-clause-run g c =
    let bits = searched c.args.self.now in
    let h = c.args.level.height in
    whole-run bits h c.args.from c.args.to c.node.result (omega arith) c.requires.within
    (node-run bits h c.args.from c.node.result c.node.ensures.total c.node.ensures.least)
