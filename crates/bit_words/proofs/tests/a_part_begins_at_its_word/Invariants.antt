use Rattle.bit_words.proofs.tests.a_part_begins_at_its_word.Given as goal

abbrev pub ghosts-word_of_part : goal.ghosts-word_of_part
ghosts-word_of_part g a = record { name = a.blank.name; parts = a.blank.parts }
