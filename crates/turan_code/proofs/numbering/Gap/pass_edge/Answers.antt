use Rattle.std.proofs.Common.{true, false, arith}
use Rattle.code_laws.proofs.Walked.{first_of_walk}
use Rattle.turan_code.specs.Numbering.{code_of_walk}
use Rattle.turan_code.proofs.Views.{edge_below}
use Rattle.turan_code.proofs.Numbered.{same_round, same_round_if, room, some_round, passed, passed_if, tree_edge_if, other_edge_is}
use Rattle.turan_code.proofs.numbering.Gap.pass_edge.Goals as goal

pub pass-requires-clause-room : goal.pass-requires-clause-room
pass-requires-clause-room c =
    let w = c.requires.walk in
    room (code_of_walk c.args.walk) w.sound true c.args.p c.requires.within c.args.self.now.tree w.few c.requires.tree

pub pass-requires-clause-open : goal.pass-requires-clause-open
pass-requires-clause-open c =
    let w = c.requires.walk in
    let walk = c.args.walk in
    let first = first_of_walk walk.tree.now walk.first.now walk.starts.now w.same c.args.p c.requires.within in
    some_round (code_of_walk walk) w.sound true c.args.p c.requires.within c.if-walk-p.true _ c.args.self.now.tree first c.requires.tree

pub pass-requires-else-walk-p-clause-room : goal.pass-requires-else-walk-p-clause-room
pass-requires-else-walk-p-clause-room c =
    let w = c.requires.walk in
    room (code_of_walk c.args.walk) w.sound false c.args.p c.requires.within c.args.self.now.dual w.few c.requires.dual

pub pass-requires-else-walk-p-clause-open : goal.pass-requires-else-walk-p-clause-open
pass-requires-else-walk-p-clause-open c =
    let w = c.requires.walk in
    let walk = c.args.walk in
    let first = first_of_walk walk.tree.now walk.first.now walk.starts.now w.same c.args.p c.requires.within in
    some_round (code_of_walk walk) w.sound false c.args.p c.requires.within c.if-walk-p.false _ c.args.self.now.dual first c.requires.dual

pub returns-then-walk-p-clause-edge : goal.returns-then-walk-p-clause-edge
returns-then-walk-p-clause-edge c =
    let w = c.requires.walk in
    let walk = c.args.walk in
    let first = first_of_walk walk.tree.now walk.first.now walk.starts.now w.same c.args.p c.requires.within in
    tree_edge_if (code_of_walk walk) w.sound c.args.p c.pass.result c.if-walk-p.true
    (passed_if (code_of_walk walk) w.sound true c.args.p c.requires.within c.if-walk-p.true _ c.args.self.now.tree c.pass.new.self c.pass.result first c.requires.tree c.pass.ensures).1

pub returns-then-walk-p-clause-tree : goal.returns-then-walk-p-clause-tree
returns-then-walk-p-clause-tree c =
    let w = c.requires.walk in
    let walk = c.args.walk in
    let first = first_of_walk walk.tree.now walk.first.now walk.starts.now w.same c.args.p c.requires.within in
    (passed_if (code_of_walk walk) w.sound true c.args.p c.requires.within c.if-walk-p.true _ c.args.self.now.tree c.pass.new.self c.pass.result first c.requires.tree c.pass.ensures).0

pub returns-then-walk-p-clause-dual : goal.returns-then-walk-p-clause-dual
returns-then-walk-p-clause-dual c =
    let w = c.requires.walk in
    same_round_if (code_of_walk c.args.walk) w.sound false c.args.p c.args.self.now.dual c.pass.result c.requires.within c.if-walk-p.true c.requires.dual

pub overflow_add-result : goal.overflow_add-result
overflow_add-result c =
    let w = c.requires.walk in
    let walk = c.args.walk in
    let code = code_of_walk walk in
    let first = first_of_walk walk.tree.now walk.first.now walk.starts.now w.same c.args.p c.requires.within in
    let number = (passed code w.sound false c.args.p c.requires.within c.if-walk-p.false _ c.args.self.now.dual c.pass-else-walk-p.new.self c.in_ok-pass.field-0 first c.requires.dual c.in_ok-pass.ensures).1 in
    let edge = other_edge_is code w.sound c.args.p c.if-walk-p.false in
    let below = edge_below code w.sound c.args.p c.requires.within in
    omega (arith, number, edge, below, w.few, c.requires.of_trees)

pub returns-in_ok-pass-clause-edge : goal.returns-in_ok-pass-clause-edge
returns-in_ok-pass-clause-edge c =
    let w = c.requires.walk in
    let walk = c.args.walk in
    let code = code_of_walk walk in
    let first = first_of_walk walk.tree.now walk.first.now walk.starts.now w.same c.args.p c.requires.within in
    let number = (passed code w.sound false c.args.p c.requires.within c.if-walk-p.false _ c.args.self.now.dual c.pass-else-walk-p.new.self c.in_ok-pass.field-0 first c.requires.dual c.in_ok-pass.ensures).1 in
    let edge = other_edge_is code w.sound c.args.p c.if-walk-p.false in
    omega (arith, number, edge, c.requires.of_trees)

pub returns-in_ok-pass-clause-tree : goal.returns-in_ok-pass-clause-tree
returns-in_ok-pass-clause-tree c =
    let w = c.requires.walk in
    same_round (code_of_walk c.args.walk) w.sound true c.args.p c.requires.within c.args.self.now.tree c.if-walk-p.false c.requires.tree

pub returns-in_ok-pass-clause-dual : goal.returns-in_ok-pass-clause-dual
returns-in_ok-pass-clause-dual c =
    let w = c.requires.walk in
    let walk = c.args.walk in
    let code = code_of_walk walk in
    let first = first_of_walk walk.tree.now walk.first.now walk.starts.now w.same c.args.p c.requires.within in
    (passed code w.sound false c.args.p c.requires.within c.if-walk-p.false _ c.args.self.now.dual c.pass-else-walk-p.new.self c.in_ok-pass.field-0 first c.requires.dual c.in_ok-pass.ensures).0
