use Rattle.bit_words.proofs.tests.a_word_stands_as_it_is.Given as goal

abbrev pub ghosts-first_word : goal.ghosts-first_word
ghosts-first_word g a = record { name = a.blank.name; parts = a.blank.parts }

abbrev pub ghosts-number : goal.ghosts-number
ghosts-number g a = record { name = a.blank.name; parts = a.blank.parts }
