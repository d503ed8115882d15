use Rattle.bit_words.proofs.tests.words_end_between_two_bits_and_lists_may_be_empty.Given as goal

abbrev pub ghosts-bit_and_chunk : goal.ghosts-bit_and_chunk
ghosts-bit_and_chunk g a = record { name = a.blank.name; parts = a.blank.parts }

abbrev pub ghosts-number : goal.ghosts-number
ghosts-number g a = record { name = a.blank.name; parts = a.blank.parts }
