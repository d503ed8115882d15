use Rattle.bit_words.proofs.tests.numbers_of_each_width_straddle_a_word.Given as goal

abbrev pub ghosts-number : goal.ghosts-number
ghosts-number g a = record { name = a.blank.name; parts = a.blank.parts }
