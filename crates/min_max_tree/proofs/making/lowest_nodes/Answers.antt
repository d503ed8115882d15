use Rattle.std.proofs.Common.{refl, arith, length, subst, min, ◌∙◌, ◌≡◌, ◌+◌, ◌*◌}
use Rattle.min_max_tree.specs.Tree.{start_at, nodes_of}
use Rattle.min_max_tree.specs.Built.{Built}
use Rattle.min_max_tree.proofs.Levels.{start-up, start-zero}
use Rattle.min_max_tree.proofs.Sizes.{lowest}
use Rattle.min_max_tree.proofs.Builds.{Built-more, block-there, block-run, node-word, small-total, small-least}
use Rattle.min_max_tree.proofs.making.lowest_nodes.Goals as goal

pub word-requires-clause-total : goal.word-requires-clause-total
word-requires-clause-total c =
    small-total c.args.bits.now _ _ c.run_of_block.result c.requires.few (omega arith) (omega arith) c.run_of_block.ensures

pub word-requires-clause-least : goal.word-requires-clause-least
word-requires-clause-least c =
    small-least c.args.bits.now _ _ c.run_of_block.result (omega arith) (omega arith) c.run_of_block.ensures

pub loop-block-preserved : goal.loop-block-preserved
loop-block-preserved c =
    let bits = c.args.bits.now in
    let j = c.loop-block.block in
    let r = block-run bits j (512 * j) (min (length bits) (512 * (j + 1))) c.run_of_block.result refl refl c.run_of_block.ensures in
    let w = block-there (length bits) j (omega arith) in
    let at : j ≡ start_at (length bits) 0 + j = omega (arith, start-zero (length bits)) in
    let f = c.word.ensures ∙ node-word bits 0 j j c.run_of_block.result c.requires.few (λ g q. absurd (omega arith)) w r at in
    record {
      built = Built-more (nodes_of bits) c.loop-block.nodes.items c.push_word.new.nodes.items j c.word.result c.loop-block.invariant.built c.in_ok-push_word.ensures.ok f;
    }

pub returns : goal.returns
returns c =
    let bits = c.args.bits.now in
    let u = start-up (length bits) 0 in
    let z = start-zero (length bits) in
    let l = lowest (length bits) in
    let e : c.loop-block.block ≡ start_at (length bits) 1 = omega (arith, u, z, l, c.len-len.ensures, c.div_ceil-block-end.ensures, c.loop-block.auto.block-end, c.loop-block-test.false) in
    subst (λ n. Built (nodes_of bits) c.loop-block.nodes.items n) e c.loop-block.invariant.built
