use Rattle.std.proofs.Common.{refl, arith, length, subst, sym, ap, ◌∙◌, ◌≡◌, ◌+◌}
use Rattle.bit_words.specs.BitView.{bits_of}
use Rattle.bit_words.specs.WordView.{words_of}
use Rattle.min_max_tree.specs.Tree.{size_at, start_at, nodes_of}
use Rattle.min_max_tree.specs.Built.{HoldsFirst}
use Rattle.min_max_tree.proofs.Levels.{start-up}
use Rattle.min_max_tree.proofs.Nodes.{node-order, node-at}
use Rattle.min_max_tree.proofs.Sizes.{nodes-length, tree-le}
use Rattle.min_max_tree.proofs.Builds.{parent-within, Holds-more, first-wrong, reached-above, node-word, small-total, small-least}
use Rattle.min_max_tree.proofs.checking.check_parents.Goals as goal

pub parent_seen-requires-clause-size : goal.parent_seen-requires-clause-size
parent_seen-requires-clause-size g c =
    let bits = bits_of c.args.bits.now in
    let h = c.args.level.height in
    let w = parent-within (length bits) c.len-len.result h c.size-j-end.result c.above-above.result.height c.loop-j.j c.len-len.ensures c.above-above.ensures.height c.size-j-end.ensures c.loop-j-test.true in
    let a = node-at bits (h + 1) c.loop-j.j (reached-above (length bits) c.args.level c.requires.level c.requires.more) w in
    omega (arith, a.0, nodes-length bits, c.requires.size)

pub word-want-requires-clause-total : goal.word-want-requires-clause-total
word-want-requires-clause-total g c =
    let bits = bits_of c.args.bits.now in
    let h = c.args.level.height in
    let w = parent-within (length bits) c.len-len.result h c.size-j-end.result c.above-above.result.height c.loop-j.j c.len-len.ensures c.above-above.ensures.height c.size-j-end.ensures c.loop-j-test.true in
    let o = node-order (length bits) (h + 1) c.loop-j.j w in
    small-total bits _ _ c.parent_seen.result c.requires.few (omega arith) (omega arith) c.parent_seen.ensures.run

pub word-want-requires-clause-least : goal.word-want-requires-clause-least
word-want-requires-clause-least g c =
    let bits = bits_of c.args.bits.now in
    let h = c.args.level.height in
    let w = parent-within (length bits) c.len-len.result h c.size-j-end.result c.above-above.result.height c.loop-j.j c.len-len.ensures c.above-above.ensures.height c.size-j-end.ensures c.loop-j-test.true in
    let o = node-order (length bits) (h + 1) c.loop-j.j w in
    small-least bits _ _ c.parent_seen.result (omega arith) (omega arith) c.parent_seen.ensures.run

pub overflow_add-at : goal.overflow_add-at
overflow_add-at g c =
    let bits = bits_of c.args.bits.now in
    let h = c.args.level.height in
    let w = parent-within (length bits) c.len-len.result h c.size-j-end.result c.above-above.result.height c.loop-j.j c.len-len.ensures c.above-above.ensures.height c.size-j-end.ensures c.loop-j-test.true in
    let a = node-at bits (h + 1) c.loop-j.j (reached-above (length bits) c.args.level c.requires.level c.requires.more) w in
    let m : start_at c.len-len.result c.above-above.result.height ≡ start_at (length bits) (h + 1) = rw (c.len-len.ensures, c.above-above.ensures.height) refl in
    omega (arith, a.0, nodes-length bits, tree-le (length bits), c.requires.few, m, c.above-above.ensures.level.start)

pub word-found-requires : goal.word-found-requires
word-found-requires g c =
    let bits = bits_of c.args.bits.now in
    let h = c.args.level.height in
    let w = parent-within (length bits) c.len-len.result h c.size-j-end.result c.above-above.result.height c.loop-j.j c.len-len.ensures c.above-above.ensures.height c.size-j-end.ensures c.loop-j-test.true in
    let a = node-at bits (h + 1) c.loop-j.j (reached-above (length bits) c.args.level c.requires.level c.requires.more) w in
    let m : start_at c.len-len.result c.above-above.result.height ≡ start_at (length bits) (h + 1) = rw (c.len-len.ensures, c.above-above.ensures.height) refl in
    omega (arith, a.0, nodes-length bits, c.requires.size, m, c.above-above.ensures.level.start)

pub returns-then-found-want-clause-checked : goal.returns-then-found-want-clause-checked
returns-then-found-want-clause-checked g c =
    let bits = bits_of c.args.bits.now in
    let h = c.args.level.height in
    let j = c.loop-j.j in
    let w = parent-within (length bits) c.len-len.result h c.size-j-end.result c.above-above.result.height j c.len-len.ensures c.above-above.ensures.height c.size-j-end.ensures c.loop-j-test.true in
    let reached = reached-above (length bits) c.args.level c.requires.level c.requires.more in
    let a = node-at bits (h + 1) j reached w in
    let m : start_at c.len-len.result c.above-above.result.height ≡ start_at (length bits) (h + 1) = rw (c.len-len.ensures, c.above-above.ensures.height) refl in
    let at = c.above-above.result.start + j in
    let e : at ≡ start_at (length bits) (h + 1) + j = omega (arith, m, c.above-above.ensures.level.start) in
    first-wrong (nodes_of bits) (words_of c.args.nodes.now) at c.word-found.result c.word-want.result
    (subst (λ n. HoldsFirst (nodes_of bits) (words_of c.args.nodes.now) n) (sym e) c.loop-j.invariant.holds)
    (omega (arith, a.0, e)) c.word-found.ensures.word
    (c.word-want.ensures ∙ node-word bits (h + 1) j at c.parent_seen.result c.requires.few reached w c.parent_seen.ensures.run e)
    c.if-found-want.true

pub returns-then-found-want-clause-cost : goal.returns-then-found-want-clause-cost
returns-then-found-want-clause-cost g c =
    let bits = bits_of c.args.bits.now in
    let h = c.args.level.height in
    let w = parent-within (length bits) c.len-len.result h c.size-j-end.result c.above-above.result.height c.loop-j.j c.len-len.ensures c.above-above.ensures.height c.size-j-end.ensures c.loop-j-test.true in
    let u = start-up (length bits) (h + 1) in
    let t : start_at (length bits) (h + 1 + 1) ≡ start_at (length bits) (h + 2) = ap (start_at (length bits)) (let e : h + 1 + 1 ≡ h + 2 = omega arith in e) in
    omega (arith, w, u, t, c.word-found.ensures.one_step, c.parent_seen.ensures.cost, c.loop-j.invariant.steps)

pub loop-j-preserved : goal.loop-j-preserved
loop-j-preserved g c =
    let bits = bits_of c.args.bits.now in
    let h = c.args.level.height in
    let j = c.loop-j.j in
    let w = parent-within (length bits) c.len-len.result h c.size-j-end.result c.above-above.result.height j c.len-len.ensures c.above-above.ensures.height c.size-j-end.ensures c.loop-j-test.true in
    let reached = reached-above (length bits) c.args.level c.requires.level c.requires.more in
    let m : start_at c.len-len.result c.above-above.result.height ≡ start_at (length bits) (h + 1) = rw (c.len-len.ensures, c.above-above.ensures.height) refl in
    let at = c.above-above.result.start + j in
    let e : at ≡ start_at (length bits) (h + 1) + j = omega (arith, m, c.above-above.ensures.level.start) in
    record {
      holds = Holds-more (nodes_of bits) (words_of c.args.nodes.now) at _ c.word-found.result c.word-want.result
          (subst (λ n. HoldsFirst (nodes_of bits) (words_of c.args.nodes.now) n) (sym e) c.loop-j.invariant.holds)
          c.word-found.ensures.word
          (c.word-want.ensures ∙ node-word bits (h + 1) j at c.parent_seen.result c.requires.few reached w c.parent_seen.ensures.run e)
          c.if-found-want.false (omega (arith, e));
      grows = omega arith;
      steps = omega (arith, c.word-found.ensures.one_step, c.parent_seen.ensures.cost, c.loop-j.invariant.steps);
    }

pub returns-clause-checked : goal.returns-clause-checked
returns-clause-checked g c =
    let bits = bits_of c.args.bits.now in
    let h = c.args.level.height in
    let m : size_at c.len-len.result c.above-above.result.height ≡ size_at (length bits) (h + 1) = rw (c.len-len.ensures, c.above-above.ensures.height) refl in
    let u = start-up (length bits) (h + 1) in
    let t : start_at (length bits) (h + 1 + 1) ≡ start_at (length bits) (h + 2) = ap (start_at (length bits)) (let e : h + 1 + 1 ≡ h + 2 = omega arith in e) in
    let s : start_at (length bits) (h + 1) + c.loop-j.j ≡ start_at (length bits) (h + 2) = omega (arith, m, u, t, c.size-j-end.ensures, c.loop-j.auto.j-end, c.loop-j-test.false) in
    subst (λ n. HoldsFirst (nodes_of bits) (words_of c.args.nodes.now) n) s c.loop-j.invariant.holds

pub returns-clause-cost : goal.returns-clause-cost
returns-clause-cost g c =
    let bits = bits_of c.args.bits.now in
    let h = c.args.level.height in
    let m : size_at c.len-len.result c.above-above.result.height ≡ size_at (length bits) (h + 1) = rw (c.len-len.ensures, c.above-above.ensures.height) refl in
    let u = start-up (length bits) (h + 1) in
    let t : start_at (length bits) (h + 1 + 1) ≡ start_at (length bits) (h + 2) = ap (start_at (length bits)) (let e : h + 1 + 1 ≡ h + 2 = omega arith in e) in
    omega (arith, m, u, t, c.size-j-end.ensures, c.loop-j.auto.j-end, c.loop-j-test.false, c.loop-j.invariant.steps)
