use Rattle.std.proofs.Common.{◌≡◌, ◌++◌, drop}
use Rattle.file_laws.specs.Image.{bytes_of}
use Rattle.pemb_file.proofs.writing.push_words.Given as goal

abbrev pub invariant-loop-word : goal.invariant-loop-word
invariant-loop-word l = l.image.items ++ bytes_of (drop l.word-index l.words) ≡ l.initial.image.items ++ bytes_of l.words
