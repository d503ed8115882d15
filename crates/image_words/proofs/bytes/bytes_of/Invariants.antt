use Rattle.std.proofs.Common.{◌≡◌, ◌++◌, drop}
use Rattle.image_words.proofs.WordBytes.{word_bytes}
use Rattle.image_words.proofs.bytes.bytes_of.Given as goal

abbrev pub invariant-loop-word : goal.invariant-loop-word
invariant-loop-word l = l.bytes.items ++ word_bytes (drop l.word-index l.words) ≡ word_bytes l.words
