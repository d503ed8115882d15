use Rattle.std.proofs.Common.{refl, arith}
use Rattle.pemb_file.specs.Form.{number_of}
use Rattle.pemb_file.specs.Parts.{contents_of_parts}
use Rattle.pemb_file.proofs.MadeCounts.{many, same_counts, few_from}
use Rattle.pemb_file.proofs.writing.header_of.Goals as goal

pub overflow_sub-result : goal.overflow_sub-result
overflow_sub-result c =
    let faces = (many (contents_of_parts c.args.parts.now) c.requires.whole).faces in
    omega (arith, faces, c.len.ensures, c.len-edges.ensures)

pub returns-clause-counts : goal.returns-clause-counts
returns-clause-counts c =
    let m = many (contents_of_parts c.args.parts.now) c.requires.whole in
    let faces = m.faces in
    let few = m.few_tree in
    let edges = c.len-edges.ensures in
    let len = c.len.ensures in
    let h = c.requires.names in
    same_counts _ _ _ _ _ _ _ _ _ _ _ _ _ _ _ _ _ _ _ _ refl (omega (arith, edges)) (omega (arith, edges, len, faces, few)) (omega (arith, c.len-2.ensures)) (omega (arith, c.len-3.ensures)) (omega (arith, c.len-4.ensures))
    (omega (arith, c.from.ensures, h.nodes.marked)) (omega (arith, c.from-2.ensures, h.edges.marked)) (omega (arith, c.from-3.ensures, h.faces.marked)) (omega (arith, c.from-4.ensures, h.regions.marked))

pub returns-clause-few : goal.returns-clause-few
returns-clause-few c =
    few_from (number_of c.args.form) (contents_of_parts c.args.parts.now) c.requires.whole _ (returns-clause-counts c)
