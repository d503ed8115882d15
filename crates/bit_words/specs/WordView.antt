-- The words of a view.
use Rattle.std.specs.Prelude.{ℕ, ◌/◌, List, length}
use Rattle.bit_words.specs.declared.word_view.WordView.{WordView}
use Rattle.bit_words.specs.Words.{words_in}

-- the words that a view stands for
abbrev pub words_of : WordView → List ℕ
words_of v = words_in (length v.bytes.now / 8) v.bytes.now
