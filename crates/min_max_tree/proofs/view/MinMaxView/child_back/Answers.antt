use Rattle.std.proofs.Common.{arith, length, subst, ap, ◌∙◌}
use Rattle.min_max_tree.specs.MinMaxView.{searched}
use Rattle.min_max_tree.specs.Tree.{size_at}
use Rattle.min_max_tree.specs.Level.{IsLevel}
use Rattle.min_max_tree.proofs.Climb.{small-index}
use Rattle.min_max_tree.proofs.Backs.{child_only, child_last, child_first}
use Rattle.min_max_tree.proofs.view.MinMaxView.child_back.Goals as goal

pub overflow_mul-left : goal.overflow_mul-left
overflow_mul-left g c =
    let s = small-index (length (searched c.args.self.now)) c.args.spot.level.height c.args.spot.j c.requires.spot.within c.args.self.now.few in
    omega arith

pub overflow_add-right : goal.overflow_add-right
overflow_add-right g c =
    let s = small-index (length (searched c.args.self.now)) c.args.spot.level.height c.args.spot.j c.requires.spot.within c.args.self.now.few in
    omega arith

pub returns-then-right-size-clause-leads : goal.returns-then-right-size-clause-leads
returns-then-right-size-clause-leads g c =
    let bits = searched c.args.self.now in
    let level = subst (λ n. IsLevel n c.below-level.result) c.len-len.ensures c.below-level.ensures.level in
    let e = c.size.ensures ∙ ap (λ n. size_at n c.below-level.result.height) c.len-len.ensures in
    child_only bits c.args.spot.level.height c.below-level.result c.args.spot.j c.args.spot.need level c.below-level.ensures.height c.requires.spot.within c.requires.spot.some c.requires.spot.reaches (omega arith)

pub returns-in-Reached-clause-leads : goal.returns-in-Reached-clause-leads
returns-in-Reached-clause-leads g c =
    let bits = searched c.args.self.now in
    let level = subst (λ n. IsLevel n c.below-level.result) c.len-len.ensures c.below-level.ensures.level in
    let e = c.size.ensures ∙ ap (λ n. size_at n c.below-level.result.height) c.len-len.ensures in
    child_last bits c.args.spot.level.height c.below-level.result c.args.spot.j c.args.spot.need level c.below-level.ensures.height c.requires.spot.within c.requires.spot.some c.requires.spot.reaches (omega arith) c.in-Reached.ensures.passed

pub returns-in-Passed-clause-leads : goal.returns-in-Passed-clause-leads
returns-in-Passed-clause-leads g c =
    let bits = searched c.args.self.now in
    let level = subst (λ n. IsLevel n c.below-level.result) c.len-len.ensures c.below-level.ensures.level in
    let e = c.size.ensures ∙ ap (λ n. size_at n c.below-level.result.height) c.len-len.ensures in
    child_first bits c.args.spot.level.height c.below-level.result c.args.spot.j c.args.spot.need level c.below-level.ensures.height c.requires.spot.within c.requires.spot.some c.requires.spot.reaches c.in-Passed.need (omega arith) c.in-Passed.ensures.passed
