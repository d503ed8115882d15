use Rattle.std.proofs.Common.{refl, arith, length, sym, ap, ◌∙◌, ◌≡◌, ◌≤◌, ◌+◌}
use Rattle.bit_words.specs.BitView.{bits_of}
use Rattle.bit_words.specs.WordView.{words_of}
use Rattle.min_max_tree.specs.Tree.{size_at, nodes_of}
use Rattle.min_max_tree.proofs.Levels.{start-up, start-zero}
use Rattle.min_max_tree.proofs.Nodes.{size-up}
use Rattle.min_max_tree.proofs.Sizes.{tree-end, nodes-length, lowest, tree-le}
use Rattle.min_max_tree.proofs.Builds.{Holds-all, above-within}
use Rattle.min_max_tree.proofs.checking.check_levels.Goals as goal

pub returns-in_err-check_lowest-clause-cost : goal.returns-in_err-check_lowest-clause-cost
returns-in_err-check_lowest-clause-cost g c =
    let len = length (bits_of c.args.bits.now) in
    omega (arith, start-up len 0, start-zero len, lowest len, c.check_lowest.ensures.cost)

pub returns-in_err-check_parents-clause-cost : goal.returns-in_err-check_parents-clause-cost
returns-in_err-check_parents-clause-cost g c =
    let bits = bits_of c.args.bits.now in
    let len = length bits in
    let h = c.loop-level.level.height in
    let m : size_at c.len-len.result h ≡ size_at len h = rw c.len-len.ensures refl in
    let w = above-within bits c.loop-level.level c.loop-level.invariant.level (omega (arith, m, c.size.ensures, c.loop-level-test.true)) in
    omega (arith, w, tree-le len, c.check_parents.ensures.cost, c.check_lowest.ensures.cost, c.loop-level.invariant.steps)

pub loop-level-smaller : goal.loop-level-smaller
loop-level-smaller g c =
    let len = length (bits_of c.args.bits.now) in
    let h = c.loop-level.level.height in
    let m : size_at c.len-len.result h ≡ size_at len h = rw c.len-len.ensures refl in
    let u = size-up len h (omega (arith, m, c.size.ensures, c.loop-level-test.true)) in
    let e : size_at len c.above-level.result.height ≡ size_at len (h + 1) = ap (size_at len) c.above-level.ensures.height in
    omega (arith, m, u, e, c.size.ensures, c.loop-level-test.true)

pub returns-clause-checked : goal.returns-clause-checked
returns-clause-checked g c =
    let bits = bits_of c.args.bits.now in
    let len = length bits in
    let h = c.loop-level.level.height in
    let m : size_at c.len-len.result h ≡ size_at len h = rw c.len-len.ensures refl in
    let top : size_at len h ≤ 1 = omega (arith, m, c.size.ensures, c.loop-level-test.false) in
    let n = nodes-length bits in
    Holds-all (nodes_of bits) (words_of c.args.nodes.now) _ c.loop-level.invariant.holds (c.requires.size ∙ sym n) (tree-end len h c.loop-level.invariant.level.reached top ∙ sym n)

pub returns-clause-cost : goal.returns-clause-cost
returns-clause-cost g c =
    let bits = bits_of c.args.bits.now in
    let len = length bits in
    let h = c.loop-level.level.height in
    let m : size_at c.len-len.result h ≡ size_at len h = rw c.len-len.ensures refl in
    let top : size_at len h ≤ 1 = omega (arith, m, c.size.ensures, c.loop-level-test.false) in
    omega (arith, tree-end len h c.loop-level.invariant.level.reached top, tree-le len, c.check_lowest.ensures.cost, c.loop-level.invariant.steps)
