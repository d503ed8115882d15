use Rattle.std.proofs.Common.{ap, sym, ◌∙◌}
use Rattle.bit_words.specs.WordView.{words_of}
use Rattle.bit_words.specs.BitView.{bits_of}
use Rattle.min_max_tree.specs.Tree.{tree_size, nodes_of}
use Rattle.file_laws.specs.Layout.{counts_in}
use Rattle.pemb_file.proofs.KindLaws.{tree-words}
use Rattle.pemb_file.proofs.Wrong.{wrong-at}
use Rattle.pemb_file.proofs.image.Image.check_tree.Goals as goal

pub check-requires-clause-size : goal.check-requires-clause-size
check-requires-clause-size g c =
    let k = counts_in (words_of c.args.self.now.words) in
    c.part.ensures.len ∙ tree-words k c.args.number c.requires ∙ ap tree_size (sym c.bits.ensures.len)

pub returns-clause-fault : goal.returns-clause-fault
returns-clause-fault g c =
    wrong-at c.check.result nodes_of (bits_of c.bits.result) _ (words_of c.part.result) _ c.bits.ensures.bits c.part.ensures.words c.check.ensures.checked
