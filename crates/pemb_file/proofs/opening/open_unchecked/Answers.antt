use Rattle.std.proofs.Common.{ap, ◌∙◌}
use Rattle.file_laws.specs.Held.{contents_of}
use Rattle.pemb_file.proofs.Opened.{unchecked_parts}
use Rattle.pemb_file.proofs.opening.open_unchecked.Goals as goal

pub code_view-requires-clause-sound : goal.code_view-requires-clause-sound
code_view-requires-clause-sound g c = (unchecked_parts c.args.bytes.now _ c.unchecked_image-image.ensures.words c.requires.right).sound

pub code_view-requires-clause-directories : goal.code_view-requires-clause-directories
code_view-requires-clause-directories g c = (unchecked_parts c.args.bytes.now _ c.unchecked_image-image.ensures.words c.requires.right).directories

pub open_file-requires-clause-names : goal.open_file-requires-clause-names
open_file-requires-clause-names g c = (unchecked_parts c.args.bytes.now _ c.unchecked_image-image.ensures.words c.requires.right).names

pub open_file-requires-clause-regions : goal.open_file-requires-clause-regions
open_file-requires-clause-regions g c = (unchecked_parts c.args.bytes.now _ c.unchecked_image-image.ensures.words c.requires.right).regions

pub open_file-requires-clause-whole : goal.open_file-requires-clause-whole
open_file-requires-clause-whole g c = (unchecked_parts c.args.bytes.now _ c.unchecked_image-image.ensures.words c.requires.right).whole

pub returns-clause-contents : goal.returns-clause-contents
returns-clause-contents g c = c.open_file.ensures ∙ ap contents_of c.unchecked_image-image.ensures.words
