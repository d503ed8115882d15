use Rattle.bit_words.proofs.tests.numbers_are_read_across_words.Given as goal

abbrev pub ghosts-number : goal.ghosts-number
ghosts-number g a = record { name = a.blank.name; parts = a.blank.parts }
