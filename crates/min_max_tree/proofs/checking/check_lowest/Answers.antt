use Rattle.std.proofs.Common.{refl, arith, length, subst, ap, min, ◌∙◌, ◌≡◌, ◌+◌, ◌*◌}
use Rattle.bit_words.specs.BitView.{bits_of}
use Rattle.bit_words.specs.WordView.{words_of}
use Rattle.min_max_tree.specs.Tree.{start_at, nodes_of}
use Rattle.min_max_tree.specs.Built.{HoldsFirst}
use Rattle.min_max_tree.proofs.Levels.{start-up, start-zero}
use Rattle.min_max_tree.proofs.Nodes.{node-at}
use Rattle.min_max_tree.proofs.Sizes.{nodes-length, lowest}
use Rattle.min_max_tree.proofs.Builds.{Holds-more, first-wrong, block-there, block-run, node-word, small-total, small-least}
use Rattle.min_max_tree.proofs.checking.check_lowest.Goals as goal

pub word-want-requires-clause-total : goal.word-want-requires-clause-total
word-want-requires-clause-total g c =
    small-total (bits_of c.args.bits.now) _ _ c.run_of_bits.result c.requires.few (omega arith) (omega arith) c.run_of_bits.ensures.run

pub word-want-requires-clause-least : goal.word-want-requires-clause-least
word-want-requires-clause-least g c =
    small-least (bits_of c.args.bits.now) _ _ c.run_of_bits.result (omega arith) (omega arith) c.run_of_bits.ensures.run

pub word-found-requires : goal.word-found-requires
word-found-requires g c =
    let bits = bits_of c.args.bits.now in
    let w = block-there (length bits) c.loop-block.block (omega arith) in
    let a = node-at bits 0 c.loop-block.block (λ h q. absurd (omega arith)) w in
    omega (arith, a.0, start-zero (length bits), nodes-length bits, c.requires.size)

pub returns-then-found-want-clause-checked : goal.returns-then-found-want-clause-checked
returns-then-found-want-clause-checked g c =
    let bits = bits_of c.args.bits.now in
    let j = c.loop-block.block in
    let w = block-there (length bits) j (omega arith) in
    let a = node-at bits 0 j (λ h q. absurd (omega arith)) w in
    let e = c.min.ensures ∙ ap (λ n. min n (512 * (j + 1))) c.len-len.ensures in
    let r = block-run bits j (512 * j) c.min.result c.run_of_bits.result refl e c.run_of_bits.ensures.run in
    let at : j ≡ start_at (length bits) 0 + j = omega (arith, start-zero (length bits)) in
    first-wrong (nodes_of bits) (words_of c.args.nodes.now) j c.word-found.result c.word-want.result c.loop-block.invariant.holds
    (omega (arith, a.0, at)) c.word-found.ensures.word
    (c.word-want.ensures ∙ node-word bits 0 j j c.run_of_bits.result c.requires.few (λ h q. absurd (omega arith)) w r at)
    c.if-found-want.true

pub returns-then-found-want-clause-cost : goal.returns-then-found-want-clause-cost
returns-then-found-want-clause-cost g c =
    let bits = bits_of c.args.bits.now in
    let u = start-up (length bits) 0 in
    let z = start-zero (length bits) in
    let l = lowest (length bits) in
    omega (arith, u, z, l, c.len-len.ensures, c.div_ceil-block-end.ensures, c.loop-block-test.true, c.min.ensures, c.run_of_bits.ensures.cost, c.word-found.ensures.one_step, c.loop-block.invariant.steps)

pub loop-block-preserved : goal.loop-block-preserved
loop-block-preserved g c =
    let bits = bits_of c.args.bits.now in
    let j = c.loop-block.block in
    let w = block-there (length bits) j (omega arith) in
    let e = c.min.ensures ∙ ap (λ n. min n (512 * (j + 1))) c.len-len.ensures in
    let r = block-run bits j (512 * j) c.min.result c.run_of_bits.result refl e c.run_of_bits.ensures.run in
    let at : j ≡ start_at (length bits) 0 + j = omega (arith, start-zero (length bits)) in
    record {
      holds = Holds-more (nodes_of bits) (words_of c.args.nodes.now) j _ c.word-found.result c.word-want.result c.loop-block.invariant.holds
          c.word-found.ensures.word
          (c.word-want.ensures ∙ node-word bits 0 j j c.run_of_bits.result c.requires.few (λ h q. absurd (omega arith)) w r at)
          c.if-found-want.false refl;
      grows = omega arith;
      steps = omega (arith, c.len-len.ensures, c.div_ceil-block-end.ensures, c.loop-block-test.true, c.min.ensures, c.run_of_bits.ensures.cost, c.word-found.ensures.one_step, c.loop-block.invariant.steps);
    }

pub returns-clause-checked : goal.returns-clause-checked
returns-clause-checked g c =
    let bits = bits_of c.args.bits.now in
    let u = start-up (length bits) 0 in
    let z = start-zero (length bits) in
    let l = lowest (length bits) in
    let e : c.loop-block.block ≡ start_at (length bits) 1 = omega (arith, u, z, l, c.len-len.ensures, c.div_ceil-block-end.ensures, c.loop-block.auto.block-end, c.loop-block-test.false) in
    subst (λ n. HoldsFirst (nodes_of bits) (words_of c.args.nodes.now) n) e c.loop-block.invariant.holds

pub returns-clause-cost : goal.returns-clause-cost
returns-clause-cost g c =
    let bits = bits_of c.args.bits.now in
    let u = start-up (length bits) 0 in
    let z = start-zero (length bits) in
    let l = lowest (length bits) in
    omega (arith, u, z, l, c.len-len.ensures, c.div_ceil-block-end.ensures, c.loop-block.auto.block-end, c.loop-block-test.false, c.loop-block.invariant.steps)
