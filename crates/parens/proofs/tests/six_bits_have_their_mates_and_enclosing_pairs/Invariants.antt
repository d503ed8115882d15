use Rattle.parens.proofs.tests.six_bits_have_their_mates_and_enclosing_pairs.Given as goal

abbrev pub ghosts-six_bits : goal.ghosts-six_bits
ghosts-six_bits g a = record { name = a.blank.name; parts = a.blank.parts }
