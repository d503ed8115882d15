use Rattle.std.proofs.Common.{◌+◌, ◌/◌, ap}
use Rattle.file_laws.specs.Layout.{section_words}
use Rattle.pemb_file.proofs.section.Section.words.Goals as goal

pub returns-clause-words : goal.returns-clause-words
unfolding section_words
returns-clause-words c = ap (λ n. (n + 63) / 64) c.bits.ensures.bits
