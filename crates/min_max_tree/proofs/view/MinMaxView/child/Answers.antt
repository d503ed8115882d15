use Rattle.std.proofs.Common.{arith, ◌<◌, length, subst, sym}
use Rattle.min_max_tree.specs.MinMaxView.{searched}
use Rattle.min_max_tree.specs.Tree.{size_at}
use Rattle.min_max_tree.specs.Level.{IsLevel}
use Rattle.min_max_tree.proofs.Nodes.{left-there}
use Rattle.min_max_tree.proofs.Climb.{child_left, child_right, small-index}
use Rattle.min_max_tree.proofs.view.MinMaxView.child.Goals as goal

pub overflow_mul-left : goal.overflow_mul-left
overflow_mul-left g c =
    let s = small-index (length (searched c.args.self.now)) c.args.spot.level.height c.args.spot.j c.requires.spot.within c.args.self.now.few in
    omega arith

pub overflow_add-result : goal.overflow_add-result
overflow_add-result g c =
    let s = small-index (length (searched c.args.self.now)) c.args.spot.level.height c.args.spot.j c.requires.spot.within c.args.self.now.few in
    omega arith

pub pass-requires-clause-within : goal.pass-requires-clause-within
pass-requires-clause-within g c =
    let len = length (searched c.args.self.now) in
    left-there len c.below-level.result.height c.args.spot.j (subst (λ h. c.args.spot.j < size_at len h) (sym c.below-level.ensures.height) c.requires.spot.within)

pub returns-in-Reached-clause-leads : goal.returns-in-Reached-clause-leads
returns-in-Reached-clause-leads g c =
    let level = subst (λ n. IsLevel n c.below-level.result) c.len.ensures c.below-level.ensures.level in
    child_left (searched c.args.self.now) c.args.spot.level.height c.below-level.result c.args.spot.j c.args.spot.need level c.below-level.ensures.height c.requires.spot.within c.requires.spot.some c.in-Reached.ensures.passed

pub returns-in-Passed-clause-leads : goal.returns-in-Passed-clause-leads
returns-in-Passed-clause-leads g c =
    let level = subst (λ n. IsLevel n c.below-level.result) c.len.ensures c.below-level.ensures.level in
    child_right (searched c.args.self.now) c.args.spot.level.height c.below-level.result c.args.spot.j c.args.spot.need c.in-Passed.need level c.below-level.ensures.height c.requires.spot.within c.requires.spot.some c.requires.spot.reaches c.in-Passed.ensures.passed
