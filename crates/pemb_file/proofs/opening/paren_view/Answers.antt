use Rattle.std.proofs.Common.{◌∙◌}
use Rattle.bit_words.specs.WordView.{words_of as view_words}
use Rattle.file_laws.specs.Layout.{counts_in}
use Rattle.pemb_file.proofs.KindLaws.{parens-width}
use Rattle.pemb_file.proofs.opening.paren_view.Goals as goal

pub new-requires-clause-width : goal.new-requires-clause-width
new-requires-clause-width c = c.fields.ensures.width ∙ parens-width (counts_in (view_words c.args.image.now.words)) c.args.number c.requires.kind
