use Rattle.std.proofs.Common.{◌/◌, true, length, ap, sym, ◌∙◌, arith}
use Rattle.bit_words.proofs.Ranks.{rank-le}
use Rattle.code_laws.proofs.Walked.{length-picked}
use Rattle.turan_code.proofs.Picked.{kind_ranked}
use Rattle.turan_code.proofs.numbering.Walk.tree_edges.Goals as goal

pub overflow_cast-result : goal.overflow_cast-result
overflow_cast-result c =
    let tree = c.args.self.tree.now in
    omega (arith, c.ones.ensures, kind_ranked true tree, rank-le true tree (length tree), c.requires.few)

pub returns : goal.returns
returns c =
    let walk = c.args.self in
    ap (λ n. n / 2) (c.ones.ensures ∙ kind_ranked true walk.tree.now ∙ sym (length-picked true walk.tree.now walk.first.now c.requires.same))
