use Rattle.std.proofs.Common.{refl, arith, length, subst, sym, ap, ◌∙◌, ◌≡◌, ◌+◌}
use Rattle.min_max_tree.specs.Tree.{size_at, start_at, nodes_of}
use Rattle.min_max_tree.specs.Built.{Built}
use Rattle.min_max_tree.proofs.Levels.{start-up}
use Rattle.min_max_tree.proofs.Nodes.{node-order}
use Rattle.min_max_tree.proofs.Builds.{parent-within, Built-more, Holds-less, reached-above, node-word, small-total, small-least}
use Rattle.min_max_tree.proofs.making.push_parents.Goals as goal

pub parent_of-run-requires-clause-within : goal.parent_of-run-requires-clause-within
parent_of-run-requires-clause-within c =
    parent-within (length c.args.bits.now) c.len-len.result c.args.level.height c.size-j-end.result c.above.result.height c.loop-j.j c.len-len.ensures c.above.ensures.height c.size-j-end.ensures c.loop-j-test.true

pub parent_of-run-requires-clause-size : goal.parent_of-run-requires-clause-size
parent_of-run-requires-clause-size c =
    let b = c.loop-j.invariant.built in
    rw c.as_slice.ensures.value (omega (arith, b.size))

pub parent_of-run-requires-clause-holds : goal.parent_of-run-requires-clause-holds
parent_of-run-requires-clause-holds c =
    rw c.as_slice.ensures.value (Holds-less _ _ _ _ c.loop-j.invariant.built.holds (omega arith))

pub word-requires-clause-total : goal.word-requires-clause-total
word-requires-clause-total c =
    let bits = c.args.bits.now in
    let h = c.args.level.height in
    let w = parent-within (length bits) c.len-len.result h c.size-j-end.result c.above.result.height c.loop-j.j c.len-len.ensures c.above.ensures.height c.size-j-end.ensures c.loop-j-test.true in
    let o = node-order (length bits) (h + 1) c.loop-j.j w in
    small-total bits _ _ c.parent_of-run.result c.requires.few (omega arith) (omega arith) c.parent_of-run.ensures

pub word-requires-clause-least : goal.word-requires-clause-least
word-requires-clause-least c =
    let bits = c.args.bits.now in
    let h = c.args.level.height in
    let w = parent-within (length bits) c.len-len.result h c.size-j-end.result c.above.result.height c.loop-j.j c.len-len.ensures c.above.ensures.height c.size-j-end.ensures c.loop-j-test.true in
    let o = node-order (length bits) (h + 1) c.loop-j.j w in
    small-least bits _ _ c.parent_of-run.result (omega arith) (omega arith) c.parent_of-run.ensures

pub loop-j-preserved : goal.loop-j-preserved
loop-j-preserved c =
    let bits = c.args.bits.now in
    let h = c.args.level.height in
    let j = c.loop-j.j in
    let w = parent-within (length bits) c.len-len.result h c.size-j-end.result c.above.result.height c.loop-j.j c.len-len.ensures c.above.ensures.height c.size-j-end.ensures c.loop-j-test.true in
    let at = start_at (length bits) (h + 1) + j in
    let e = c.word.ensures ∙ node-word bits (h + 1) j at c.parent_of-run.result c.requires.few (reached-above (length bits) c.args.level c.requires.level c.requires.more) w c.parent_of-run.ensures refl in
    let s : at + 1 ≡ start_at (length bits) (h + 1) + (j + 1) = omega arith in
    record {
      built = subst (λ n. Built (nodes_of bits) c.push_word.new.nodes.items n) s (Built-more (nodes_of bits) c.loop-j.nodes.items c.push_word.new.nodes.items at c.word.result c.loop-j.invariant.built c.in_ok-push_word.ensures.ok e);
    }

pub returns : goal.returns
returns c =
    let bits = c.args.bits.now in
    let h = c.args.level.height in
    let m : size_at c.len-len.result c.above.result.height ≡ size_at (length bits) (h + 1) = rw (c.len-len.ensures, c.above.ensures.height) refl in
    let u = start-up (length bits) (h + 1) in
    let a : c.loop-j.j ≡ size_at (length bits) (h + 1) = omega (arith, m, c.size-j-end.ensures, c.loop-j.auto.j-end, c.loop-j-test.false) in
    let t : h + 1 + 1 ≡ h + 2 = omega arith in
    let s : start_at (length bits) (h + 1) + c.loop-j.j ≡ start_at (length bits) (h + 2) = rw a (sym u ∙ ap (start_at (length bits)) t) in
    record {
      built = subst (λ n. Built (nodes_of bits) c.loop-j.nodes.items n) s c.loop-j.invariant.built;
    }
