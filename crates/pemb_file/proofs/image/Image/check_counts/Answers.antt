use Rattle.std.proofs.Common.{ap, sym, ◌∙◌, ◌+◌}
use Rattle.bit_words.specs.WordView.{words_of}
use Rattle.bit_words.specs.BitView.{bits_of}
use Rattle.bit_words.specs.PackedView.{fields_of}
use Rattle.rank_select.specs.Counts.{blocks, counts_of}
use Rattle.file_laws.specs.Layout.{counts_in}
use Rattle.pemb_file.proofs.KindLaws.{directory-count, directory-width}
use Rattle.pemb_file.proofs.Wrong.{wrong-at}
use Rattle.pemb_file.proofs.image.Image.check_counts.Goals as goal

pub check_counts-requires-clause-count : goal.check_counts-requires-clause-count
check_counts-requires-clause-count g c =
    let k = counts_in (words_of c.args.self.now.words) in
    c.fields.ensures.len ∙ directory-count k c.args.number c.requires ∙ ap (λ n. blocks n + 1) (sym c.bits.ensures.len)

pub returns-clause-fault : goal.returns-clause-fault
returns-clause-fault g c =
    wrong-at c.check_counts.result counts_of (bits_of c.bits.result) _ (fields_of c.fields.result) _ c.bits.ensures.bits c.fields.ensures.fields c.check_counts.ensures.checked

pub check_counts-requires-clause-width : goal.check_counts-requires-clause-width
check_counts-requires-clause-width g c = c.fields.ensures.width ∙ directory-width (counts_in (words_of c.args.self.now.words)) c.args.number c.requires
