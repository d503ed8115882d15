use Rattle.std.proofs.Common.{refl, arith, length, sym, ap, ◌∙◌, ◌≡◌, ◌≤◌, ◌+◌}
use Rattle.min_max_tree.specs.Tree.{size_at, nodes_of}
use Rattle.min_max_tree.proofs.Nodes.{size-up}
use Rattle.min_max_tree.proofs.Sizes.{tree-end, nodes-length}
use Rattle.min_max_tree.proofs.Builds.{Built-all}
use Rattle.min_max_tree.proofs.making.make.Goals as goal

pub loop-level-smaller : goal.loop-level-smaller
loop-level-smaller c =
    let len = length c.args.bits.now in
    let h = c.loop-level.level.height in
    let m : size_at c.len-len.result h ≡ size_at len h = rw c.len-len.ensures refl in
    let u = size-up len h (omega (arith, m, c.size.ensures, c.loop-level-test.true)) in
    let e : size_at len c.above-level.result.height ≡ size_at len (h + 1) = ap (size_at len) c.above-level.ensures.height in
    omega (arith, m, u, e, c.size.ensures, c.loop-level-test.true)

pub returns : goal.returns
returns c =
    let bits = c.args.bits.now in
    let len = length bits in
    let h = c.loop-level.level.height in
    let m : size_at c.len-len.result h ≡ size_at len h = rw c.len-len.ensures refl in
    let top : size_at len h ≤ 1 = omega (arith, m, c.size.ensures, c.loop-level-test.false) in
    Built-all (nodes_of bits) c.loop-level.nodes.items _ c.loop-level.invariant.built (tree-end len h c.loop-level.invariant.level.reached top ∙ sym (nodes-length bits))
