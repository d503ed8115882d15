use Rattle.std.proofs.Common.{arith, ap, ◌≡◌, ◌+◌}
use Rattle.min_max_tree.specs.Tree.{size_at}
use Rattle.min_max_tree.proofs.Nodes.{size-up}
use Rattle.min_max_tree.proofs.Levels.{start-up}
use Rattle.min_max_tree.proofs.Sizes.{tree-end, tree-le}
use Rattle.min_max_tree.proofs.checking.node_count.Goals as goal

pub loop-level-init : goal.loop-level-init
loop-level-init c = record { level = c.lowest-level.ensures.level _ }

pub loop-level-smaller : goal.loop-level-smaller
loop-level-smaller c =
    let len = c.args.len in
    let h = c.loop-level.level.height in
    let u = size-up len h (omega (arith, c.size.ensures, c.loop-level-test.true)) in
    let e : size_at len c.above-level.result.height ≡ size_at len (h + 1) = ap (size_at len) c.above-level.ensures.height in
    omega (arith, u, e, c.size.ensures, c.loop-level-test.true)

pub overflow_add-result : goal.overflow_add-result
overflow_add-result c =
    let len = c.args.len in
    let h = c.loop-level.level.height in
    let l = c.loop-level.invariant.level in
    let t = tree-end len h l.reached (omega (arith, c.size.ensures, c.loop-level-test.false)) in
    omega (arith, t, start-up len h, l.start, tree-le len, c.size-2.ensures, c.requires)

pub returns : goal.returns
returns c =
    let len = c.args.len in
    let h = c.loop-level.level.height in
    let l = c.loop-level.invariant.level in
    let t = tree-end len h l.reached (omega (arith, c.size.ensures, c.loop-level-test.false)) in
    omega (arith, t, start-up len h, l.start, c.size-2.ensures)
