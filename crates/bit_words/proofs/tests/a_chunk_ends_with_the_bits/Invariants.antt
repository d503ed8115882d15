use Rattle.bit_words.proofs.tests.a_chunk_ends_with_the_bits.Given as goal

abbrev pub ghosts-bit_and_chunk : goal.ghosts-bit_and_chunk
ghosts-bit_and_chunk g a = record { name = a.blank.name; parts = a.blank.parts }
